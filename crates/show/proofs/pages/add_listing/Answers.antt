use Rattle.std.proofs.Common.{◌≡◌, ℕ, List, Result, ◌++◌, OnOk, Ok, Err, take, string_bytes, sym, ap, ◌∙◌, subst, rules}
use Rattle.kernel.specs.View.{state}
use Rattle.kernel.specs.Listing.{list_answer}
use Rattle.listing.specs.declared.Listed.{Listed}
use Rattle.listing.specs.Listed.{list_rows}
use Rattle.calls.specs.declared.Refusal.{Refusal}
use Rattle.show.specs.Shown.{listing_lines}
use Rattle.show.proofs.Rows.{rows_are}
use Rattle.show.proofs.pages.add_listing.Goals as goal

pub returns-in-Ok-clause-text : goal.returns-in-Ok-clause-text
returns-in-Ok-clause-text c =
    let s = state c.args.kernel.now in
    let answered : list_answer s c.args.rows.now ≡ Ok c.in-Ok.count = sym c.list.ensures.answer ∙ c.in-Ok.is in
    let rows : take c.in-Ok.count c.list.new.rows ≡ list_rows s = ap (take c.in-Ok.count) c.list.ensures.rows ∙ rows_are s _ _ answered in
    let adds : Result ℕ Refusal → List Listed → Type 0 = λ o listed. OnOk c.add_listed.result (string_bytes c.add_listed.new.page ≡ string_bytes c.args.page.now ++ listing_lines o listed) in
    subst (λ o. adds o (list_rows s)) (sym answered) (subst (adds (Ok c.in-Ok.count)) rows c.add_listed.ensures)

pub returns-in-Err-clause-text : goal.returns-in-Err-clause-text
returns-in-Err-clause-text c =
    let s = state c.args.kernel.now in
    let answered : list_answer s c.args.rows.now ≡ Err c.in-Err.why = sym c.list.ensures.answer ∙ c.in-Err.is in
    let adds : Result ℕ Refusal → Type 0 = λ o. OnOk c.writeln.result (string_bytes c.writeln.new.self ≡ string_bytes c.args.page.now ++ listing_lines o (list_rows s)) in
    let added : adds (Err c.in-Err.why) = search rules in
    subst adds (sym answered) added
