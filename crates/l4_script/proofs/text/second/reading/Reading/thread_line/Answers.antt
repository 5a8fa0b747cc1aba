use Rattle.std.proofs.Common.{ap, ◌∙◌, sym}
use Rattle.l4_script.specs.Inner.Second.{heir_of}
use Rattle.l4_script.specs.Second.Texts.{Reading, may_declare}
use Rattle.l4_script.proofs.Settling.{settled_may}
use Rattle.l4_script.proofs.text.second.reading.Reading.thread_line.Goals as goal

pub declare_all-requires-clause-may : goal.declare_all-requires-clause-may
declare_all-requires-clause-may c =
    let heir = heir_of c.in-Ok.heir in
    ap (λ (r : Reading). may_declare heir r.machine) c.settle.ensures ∙ settled_may heir c.args.self.now ∙ sym c.in_ok-may_declare.ensures
