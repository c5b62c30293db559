-- A record that was made of a call is read as that call.
use Rattle.std.proofs.Common.{◌≡◌, ℕ, ◌^◌, ◌<◌, false, ltb, List, [], ◌∷◌, ◌++◌, length, None, Ok, sym, ap, ◌∙◌, arith, to_z-of_z, w32, to_z, of_z}
use mir.Facts.{Fits-of_z, Fits-lt-pow}
use Rattle.std.specs.List.{flat_map, AllByRecursion}
use Rattle.std.proofs.lemmas.Bool.{le-ltb, cond-false}
use Rattle.std.proofs.lemmas.Nat.{from_le_bytes-to_le_bytes_4}
use Rattle.calls.specs.declared.Call.{Call}
use Rattle.calls.specs.declared.Call.TheVariants.{Create, Delete, ChangePriority, Hold, Release, SetFlags, TestFlags, Claim, Drop, Send, Wait}
use Rattle.player.specs.Decoded.{word, decoded}
use Rattle.player.specs.Parsed.{after_call, parsed}
use Rattle.player.specs.Encoded.{record_of, encoded, Fitting}
use Rattle.player.proofs.Parsing.{parsed_call, parsed_none}

-- a made record has its 24 bytes
long : (code a b c d e : ℕ) (rest : List ℕ) → ltb (length (record_of code a b c d e ++ rest)) 24 ≡ false
long code a b c d e rest = le-ltb (length (record_of code a b c d e ++ rest)) 24 (omega arith)

one_back : (call : Call) (rest : List ℕ) → Fitting call → decoded (encoded call ++ rest) ≡ Ok (call, rest)
one_back (Create task priority) rest h =
    cond-false _ _ _ (long 1 task priority 0 0 0 rest) ∙ (λ j. Ok (Create (from_le_bytes-to_le_bytes_4 task h.0 j) (from_le_bytes-to_le_bytes_4 priority h.1 j), rest))
one_back (Delete task) rest h =
    cond-false _ _ _ (long 2 task 0 0 0 0 rest) ∙ (λ j. Ok (Delete (from_le_bytes-to_le_bytes_4 task h j), rest))
one_back (ChangePriority task priority) rest h =
    cond-false _ _ _ (long 3 task priority 0 0 0 rest) ∙ (λ j. Ok (ChangePriority (from_le_bytes-to_le_bytes_4 task h.0 j) (from_le_bytes-to_le_bytes_4 priority h.1 j), rest))
one_back (Hold task) rest h =
    cond-false _ _ _ (long 4 task 0 0 0 0 rest) ∙ (λ j. Ok (Hold (from_le_bytes-to_le_bytes_4 task h j), rest))
one_back (Release task) rest h =
    cond-false _ _ _ (long 5 task 0 0 0 0 rest) ∙ (λ j. Ok (Release (from_le_bytes-to_le_bytes_4 task h j), rest))
one_back (SetFlags task bits) rest h =
    cond-false _ _ _ (long 6 task bits 0 0 0 rest) ∙ (λ j. Ok (SetFlags (from_le_bytes-to_le_bytes_4 task h.0 j) (from_le_bytes-to_le_bytes_4 bits h.1 j), rest))
one_back (TestFlags bits) rest h =
    cond-false _ _ _ (long 7 bits 0 0 0 0 rest) ∙ (λ j. Ok (TestFlags (from_le_bytes-to_le_bytes_4 bits h j), rest))
one_back Claim rest h = cond-false _ _ _ (long 8 0 0 0 0 0 rest)
one_back (Drop packet) rest h =
    cond-false _ _ _ (long 9 packet 0 0 0 0 rest) ∙ (λ j. Ok (Drop (from_le_bytes-to_le_bytes_4 packet h j), rest))
one_back (Send address packet kind first second) rest h =
    let fits : of_z w32 address < 2 ^ 32 = Fits-lt-pow (Fits-of_z h.0) in
    let back : to_z w32 (word (encoded (Send address packet kind first second)) 1) ≡ address = ap (to_z w32) (from_le_bytes-to_le_bytes_4 (of_z w32 address) fits) ∙ to_z-of_z h.0 in
    cond-false _ _ _ (long 10 (of_z w32 address) packet kind first second rest)
    ∙ (λ j. Ok (Send (back j) (from_le_bytes-to_le_bytes_4 packet h.1 j) (from_le_bytes-to_le_bytes_4 kind h.2 j) (from_le_bytes-to_le_bytes_4 first h.3 j) (from_le_bytes-to_le_bytes_4 second h.4 j), rest))
one_back Wait rest h = cond-false _ _ _ (long 12 0 0 0 0 0 rest)

pub reads_back : (calls : List Call) → AllByRecursion Fitting calls → parsed (flat_map encoded calls) ≡ (calls, None)
reads_back [] h = parsed_none
reads_back (call ∷ calls) h =
    let rest = flat_map encoded calls in
    parsed_call (encoded call ++ rest) rest call (sym (one_back call rest h.0)) ∙ ap (after_call call) (reads_back calls h.1)
