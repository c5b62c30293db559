use Rattle.std.proofs.Common.{◌≡◌, [], ◌∷◌, ◌++◌, map, sym, ◌∙◌, subst, append_assoc, arith}
use Rattle.std.proofs.lemmas.Bool.{leb-true, leb-false}
use Rattle.chain.specs.Chain.{chain, Place}
use Rattle.chain.proofs.Ranks.{past_more, past_all, past_here}
use Rattle.chain.proofs.Walks.{cut_at, row_at}
use Rattle.chain.proofs.Paths.{last_push}
use Rattle.chain.proofs.RowLinks.{place_row}
use Rattle.chain.proofs.find_place.Goals as goal

pub rank_at-requires : goal.rank_at-requires
rank_at-requires g c =
    let links = c.args.head ∷ map g.R.Link.link c.args.rows.now in
    let i = c.loop-at.invariant in
    let row = row_at links i.0 c.in-Some.at c.next.new.self c.requires.ends (subst (λ z. i.0 ++ z ≡ chain links) c.in-Some.ensures.steps i.1) in
    (row.0, place_row c.args.rows.now g.R.Link.link c.args.head _ row.1)

pub returns-then-not-goes_behind : goal.returns-then-not-goes_behind
returns-then-not-goes_behind g c =
    let links = c.args.head ∷ map g.R.Link.link c.args.rows.now in
    let ranks = map g.R.Ranked.key c.args.rows.now in
    let i = c.loop-at.invariant in
    subst (Place links ranks c.args.n) (sym i.2)
    record {
      front = i.0;
      back = c.loop-at.at-iterator;
      cut = cut_at links i.0 c.loop-at.at-iterator c.requires.ends i.1;
      put = past_here ranks c.args.n i.0 c.loop-at.at-iterator c.in-Some.at c.next.new.self i.3 c.in-Some.ensures.steps (omega (arith, leb-false _ _ (sym c.if-not-goes_behind.ensures), c.rank_at.ensures, c.rank_at-rank.ensures));
    }

pub loop-at-preserved : goal.loop-at-preserved
loop-at-preserved g c =
    let links = c.args.head ∷ map g.R.Link.link c.args.rows.now in
    let ranks = map g.R.Ranked.key c.args.rows.now in
    let i = c.loop-at.invariant in
    let at = c.in-Some.at in (
      i.0 ++ (at ∷ []),
      append_assoc i.0 (at ∷ []) c.next.new.self ∙ subst (λ z. i.0 ++ z ≡ chain links) c.in-Some.ensures.steps i.1,
      sym (last_push 0 i.0 at),
      past_more ranks c.args.n i.0 at i.3 (omega (arith, leb-true _ _ (sym c.if-not-goes_behind.ensures), c.rank_at.ensures, c.rank_at-rank.ensures)),
    )

pub returns : goal.returns
returns g c =
    let links = c.args.head ∷ map g.R.Link.link c.args.rows.now in
    let ranks = map g.R.Ranked.key c.args.rows.now in
    let i = c.loop-at.invariant in
    subst (Place links ranks c.args.n) (sym i.2)
    record {
      front = i.0;
      back = c.loop-at.at-iterator;
      cut = cut_at links i.0 c.loop-at.at-iterator c.requires.ends i.1;
      put = past_all ranks c.args.n i.0 c.loop-at.at-iterator i.3 c.in-None.ensures.steps.0;
    }
