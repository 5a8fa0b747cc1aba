use Rattle.std.proofs.Common.{◌≡◌, drop}
use Rattle.std.specs.Prelude.{not, ◌&&◌}
use Rattle.std.specs.List.{list_any}
use Rattle.l4_model.specs.Words.{same_id}
use Rattle.l4_outlooks.specs.Inner.Touches.{touches}
use Rattle.l4_outlooks.proofs.scripts.is_touched.Given as goal

-- The threads that are left decide.
abbrev pub invariant-loop-declared : goal.invariant-loop-declared
invariant-loop-declared l =
    list_any (λ d. not (same_id d.id l.id) && list_any (touches l.touch l.id) d.script) (drop l.declared-index l.threads)
    ≡ list_any (λ d. not (same_id d.id l.id) && list_any (touches l.touch l.id) d.script) l.threads
