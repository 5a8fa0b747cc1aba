use Rattle.std.proofs.Common.{ap, arith, drop, length, sym, ◌+◌, ◌++◌, ◌∙◌}
use Rattle.std.specs.Prelude.{flat_map}
use Rattle.std.specs.String.{string_bytes}
use Rattle.l4_model.specs.Machine.{Machine}
use Rattle.l4_model.specs.Conditions.{found_at}
use Rattle.l4_always.proofs.Telling.{all_told, members, one_left, sends_are, send_told}
use Rattle.l4_always.proofs.told.push_sends.Goals as goal

pub loop-place-preserved : goal.loop-place-preserved
loop-place-preserved c =
    let m = c.args.machine.now in
    let w = c.args.outlook.now.world in
    let l = c.loop-place in
    let here = ap (λ (n : Machine). found_at n w l.place) (sym c.requires) ∙ sym c.in-Some.ensures in
    ap (λ b. b ++ flat_map send_told (drop (l.place + 1) (members m w))) (c.in_ok-push_send_of.ensures)
    ∙ one_left send_told m w l.place c.in-Some.found (string_bytes l.text)
    (string_bytes c.args.text.now ++ flat_map send_told (members m w)) here l.invariant

pub returns : goal.returns
returns c =
    let m = c.args.machine.now in
    let w = c.args.outlook.now.world in
    let l = c.loop-place in
    all_told send_told m w l.place (string_bytes l.text)
    (string_bytes c.args.text.now ++ flat_map send_told (members m w))
    (omega (arith, c.loop-place-test.false, ap length c.threads-place-end.ensures.value)) l.invariant
    ∙ ap (λ b. string_bytes c.args.text.now ++ b) (sym (sends_are m w))
