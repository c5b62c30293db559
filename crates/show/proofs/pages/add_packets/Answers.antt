use Rattle.std.proofs.Common.{◌≡◌, ◌+◌, ◌-◌, ◌++◌, string_bytes, ap, ◌∙◌, rules, arith}
use Rattle.kernel.specs.View.{state}
use Rattle.show.specs.Shown.{packet_line, packet_lines}
use Rattle.show.proofs.Counted.{one_more}
use Rattle.show.proofs.pages.add_packets.Goals as goal

pub loop-n-preserved : goal.loop-n-preserved
loop-n-preserved c =
    let s = state c.args.kernel.now in
    let n = c.loop-n.n in
    let added : string_bytes c.add_packet.new.page ≡ string_bytes c.loop-n.page ++ packet_line s n = search rules in
    let next : n ≡ n + 1 - 1 = omega arith in (
      omega arith,
      added ∙ ap (λ bs. bs ++ packet_line s n) c.loop-n.invariant.1 ∙ one_more s _ n c.loop-n.invariant.0
          ∙ ap (λ m. string_bytes c.args.page.now ++ packet_lines s m) next,
    )
