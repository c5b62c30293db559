-- What a script says, one record at a time.
use Rattle.std.proofs.Common.{◌≡◌, ℕ, zero, suc, ◌<◌, ◌≤◌, List, [], ◌∷◌, ◌++◌, length, Some, None, Ok, Err, Result, sym, refl, ap, ◌∙◌, append_assoc, append-nil, arith}
use Rattle.std.proofs.lemmas.List.{nil_from_length}
use Rattle.calls.specs.declared.Call.{Call}
use Rattle.player.specs.declared.records.BadRecord.{BadRecord}
use Rattle.player.specs.Decoded.{decoded}
use Rattle.player.specs.Parsed.{Reading, after_call, after_record, parsed_within, parsed}
use Rattle.player.proofs.Decoding.{shorter}

same_after : (f g : List ℕ → Reading) (r : Result (Call × List ℕ) BadRecord) → ((call : Call) (more : List ℕ) → Ok (call, more) ≡ r → f more ≡ g more) → after_record f r ≡ after_record g r
same_after f g (Ok pair) h = ap (after_call pair.0) (h pair.0 pair.1 refl)
same_after f g (Err bad) h = refl

-- any bound that is large enough gives the same
any_bound : (n m : ℕ) (bs : List ℕ) → length bs ≤ n → length bs ≤ m → parsed_within n bs ≡ parsed_within m bs
unfolding parsed_within
any_bound zero zero bs h k = refl
any_bound zero (suc m) [] h k = refl
any_bound zero (suc m) (b ∷ bs) h k = absurd (omega arith)
any_bound (suc n) zero [] h k = refl
any_bound (suc n) zero (b ∷ bs) h k = absurd (omega arith)
any_bound (suc n) (suc m) [] h k = refl
any_bound (suc n) (suc m) (b ∷ bs) h k =
    same_after (parsed_within n) (parsed_within m) (decoded (b ∷ bs)) (λ call more e. any_bound n m more (omega (arith, shorter (b ∷ bs) more call e)) (omega (arith, shorter (b ∷ bs) more call e)))

parsed_more : (bs : List ℕ) (r : Result (Call × List ℕ) BadRecord) → 0 < length bs → r ≡ decoded bs → parsed bs ≡ after_record parsed r
unfolding parsed_within
parsed_more [] r some e = absurd (omega arith)
parsed_more (b ∷ bs) r some e =
    same_after (parsed_within (length bs)) parsed (decoded (b ∷ bs)) (λ call more is. any_bound (length bs) (length more) more (omega (arith, shorter (b ∷ bs) more call is)) (omega arith))
    ∙ ap (after_record parsed) (sym e)

pub parsed_call : (bs more : List ℕ) (call : Call) → Ok (call, more) ≡ decoded bs → parsed bs ≡ after_call call (parsed more)
parsed_call bs more call e = parsed_more bs (Ok (call, more)) (omega (arith, shorter bs more call e)) e

pub parsed_none : parsed [] ≡ ([], None)
unfolding parsed_within
parsed_none = refl

-- the calls in hand, and what the rest of the script says
abbrev pub joined : List Call → Reading → Reading
joined calls more = (calls ++ more.0, more.1)

pub ends : (bytes : List ℕ) (calls : List Call) (rest : List ℕ) → joined calls (parsed rest) ≡ parsed bytes → length rest ≡ 0 → ◌≡◌ {A = Reading} (calls, None) (parsed bytes)
ends bytes calls rest sofar h =
    (λ j. (sym (append-nil calls) j, None))
    ∙ ap (joined calls) (sym (ap parsed (nil_from_length rest h) ∙ parsed_none))
    ∙ sofar

pub fails : (bytes : List ℕ) (calls : List Call) (rest : List ℕ) (bad : BadRecord) → joined calls (parsed rest) ≡ parsed bytes → 0 < length rest → Err bad ≡ decoded rest → ◌≡◌ {A = Reading} (calls, Some bad) (parsed bytes)
fails bytes calls rest bad sofar some e =
    (λ j. (sym (append-nil calls) j, Some bad)) ∙ ap (joined calls) (sym (parsed_more rest (Err bad) some e)) ∙ sofar

pub goes : (bytes : List ℕ) (calls now_calls : List Call) (rest more : List ℕ) (call : Call) → joined calls (parsed rest) ≡ parsed bytes → Ok (call, more) ≡ decoded rest → now_calls ≡ calls ++ (call ∷ []) → joined now_calls (parsed more) ≡ parsed bytes
goes bytes calls now_calls rest more call sofar e pushed =
    ap (λ l. joined l (parsed more)) pushed
    ∙ (λ j. (append_assoc calls (call ∷ []) (parsed more).0 j, (parsed more).1))
    ∙ ap (joined calls) (sym (parsed_call rest more call e))
    ∙ sofar
