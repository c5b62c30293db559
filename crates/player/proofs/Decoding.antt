-- What `decoded` says of a whole record, and what a call that it gives says of the bytes.
use Rattle.std.proofs.Common.{◌≡◌, ℕ, ◌-◌, ◌<◌, ◌≤◌, Bool, true, false, cond, ◌&&◌, eqb, ltb, List, length, get_or, take, drop, Ok, Err, Result, sym, refl, ap, ◌∙◌, arith, length-drop}
use Rattle.std.proofs.lemmas.List.{drop-drop, take_rest, get_or-take}
use Rattle.std.proofs.lemmas.Bool.{le-ltb, eq-eqb, and_from, cond-true, cond-false, ltb-true, ltb-false}
use Rattle.calls.specs.declared.Call.{Call}
use Rattle.player.specs.declared.records.BadRecord.{BadRecord}
use Rattle.player.specs.declared.records.BadRecord.TheVariants.{Short, Mark}
use Rattle.player.specs.Decoded.{call_of, with_spare, with_rest, decoded}

get_or_front : (bs : List ℕ) (i : ℕ) → ltb i 20 ≡ true → get_or (take 20 bs) i 0 ≡ get_or bs i 0
get_or_front bs i below = get_or-take 20 bs i 0 (ltb-true i 20 below)

-- the words stand in the first 20 bytes
call_of_front : (code : ℕ) (bs : List ℕ) → call_of code (take 20 bs) ≡ call_of code bs
call_of_front code bs = simp get_or_front

-- a marked record of 24 bytes, whose words say a call or not
pub whole : (bs rest words more : List ℕ) (r : Result Call BadRecord) → 24 ≤ length bs → get_or bs 0 0 ≡ 75 → get_or bs 1 0 ≡ 67 → rest ≡ take (length bs - 4) (drop 4 bs) → words ≡ take 20 rest → more ≡ drop 20 rest → with_spare (get_or bs 3 0) (call_of (get_or bs 2 0) words) ≡ r → with_rest more r ≡ decoded bs
whole bs rest words more r long first second is front after told =
    let head = get_or bs 2 0 in
    let same : rest ≡ drop 4 bs = is ∙ take_rest bs 4 in
    let enough : ltb (length bs) 24 ≡ false = le-ltb _ _ long in
    let marked : (eqb (get_or bs 0 0) 75 && eqb (get_or bs 1 0) 67) ≡ true = and_from _ _ (eq-eqb _ _ first) (eq-eqb _ _ second) in
    let read_as : call_of head words ≡ call_of head (drop 4 bs) = ap (call_of head) front ∙ call_of_front head rest ∙ ap (call_of head) same in
    let here : with_spare (get_or bs 3 0) (call_of head (drop 4 bs)) ≡ r = ap (with_spare (get_or bs 3 0)) (sym read_as) ∙ told in
    let left : more ≡ drop 24 bs = after ∙ ap (drop 20) same ∙ drop-drop 20 4 bs in
    ap (λ l. with_rest l r) left ∙ sym (cond-false _ _ _ enough ∙ cond-true _ _ _ marked ∙ ap (with_rest (drop 24 bs)) here)

left_by : (short marked : Bool) (after more : List ℕ) (call : Call) (r : Result Call BadRecord) → Ok (call, more) ≡ cond short (Err Short) (cond marked (with_rest after r) (Err Mark)) → (short ≡ false) × (more ≡ after)
left_by true marked after more call r e = absurd (cc)
left_by false false after more call r e = absurd (cc)
left_by false true after more call (Err bad) e = absurd (cc)
left_by false true after more call (Ok known) e =
    let p : ◌≡◌ {A = Call × List ℕ} (call, more) (known, after) = cc in
    (refl, ap (λ t. t.1) p)

-- fewer bytes are left after a record
pub shorter : (bs more : List ℕ) (call : Call) → Ok (call, more) ≡ decoded bs → length more < length bs
shorter bs more call e =
    let h = left_by (ltb (length bs) 24) (eqb (get_or bs 0 0) 75 && eqb (get_or bs 1 0) 67) (drop 24 bs) more call (with_spare (get_or bs 3 0) (call_of (get_or bs 2 0) (drop 4 bs))) e in
    let long = ltb-false (length bs) 24 h.0 in
    let n = ap length h.1 ∙ length-drop 24 bs in
    omega arith
