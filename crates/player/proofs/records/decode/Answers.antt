use Rattle.std.proofs.Common.{ap, sym, refl, ◌∙◌, arith, Err}
use Rattle.std.proofs.lemmas.Option.{MatchOption-at_some}
use Rattle.std.proofs.lemmas.Result.{err_from_is_err_and}
use Rattle.player.specs.Decoded.{read}
use Rattle.player.proofs.Decoding.{whole}
use Rattle.player.proofs.records.decode.Goals as goal

pub returns-in_ok-call_in-in-75 : goal.returns-in_ok-call_in-in-75
returns-in_ok-call_in-in-75 c =
    let split = MatchOption-at_some _ _ _ c.unwrap.ensures c.split_first_chunk.ensures.cases in
    whole c.args.bytes.now _ _ _ _ (omega arith) (omega arith) (omega arith) refl split.0 split.1 (sym c.call_in.ensures ∙ c.in_ok-call_in-in-75.was)

pub returns-in_err-call_in-in-75 : goal.returns-in_err-call_in-in-75
returns-in_err-call_in-in-75 c =
    let split = MatchOption-at_some _ _ _ c.unwrap.ensures c.split_first_chunk.ensures.cases in
    let exit = err_from_is_err_and c.from_residual.result c.from_residual.ensures.1 in
    ap read exit.1 ∙ ap Err exit.2
    ∙ whole c.args.bytes.now _ _ _ (Err _) (omega arith) (omega arith) (omega arith) refl split.0 split.1 (sym c.call_in.ensures ∙ c.in_err-call_in-in-75.was)
