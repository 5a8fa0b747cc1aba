use Rattle.std.proofs.Common.{subst, sym}
use Rattle.l4_core_model.specs.Runs.{IsMachine, System, opening_system}
use Rattle.l4_model.proofs.Chains.{some_is}
use Rattle.l4_parts.specs.Inner.Known.{IsRow}
use Rattle.l4_endings.proofs.Finding.{no_events, none_true}
use Rattle.l4_endings.proofs.memory.Memory.new.Goals as goal

pub invariant_of-result : goal.invariant_of-result
invariant_of-result c =
    let m = c.in_ok-aims.aims in
    let walked = c.in_ok-walk.ensures in
    record {
      machine = subst IsMachine (sym c.in_ok-aims.ensures) c.facts.ensures.lawful;
      known = record {
        parts_are = c.row_of.ensures.are m walked.run walked.is
            (none_true m c.in_ok-parts.parts.parts.items c.in_ok-parts.ensures);
        events_are = no_events m c.row_of.new.parts.parts.items c.new-3.result.events.items c.new-3.ensures;
      };
      opening_is = subst (λ (g : System). IsRow m g c.row_of.new.parts.parts.items c.in_ok-opening.opening.items)
          (sym (some_is (opening_system m) walked.run.system walked.leads))
          (c.in_ok-opening.ensures.row m walked.run walked.is);
    }
