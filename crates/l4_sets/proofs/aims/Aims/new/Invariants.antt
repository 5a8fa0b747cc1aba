use Rattle.std.proofs.Common.{ℕ, ◌≡◌, ◌<◌, ◌≤◌, false, length, map, slice_index_or}
use Rattle.l4_model.specs.Machine.{most_instructions}
use Rattle.l4_core_model.specs.Local.{declared}
use Rattle.l4_persistent.specs.Inner.Posts.{is_deletable}
use Rattle.l4_sets.specs.Inner.Aimed.{script_at, AreAimed}
use Rattle.l4_sets.proofs.aims.Aims.new.Given as goal

-- The threads before the next one are known.
abbrev pub invariant-loop-declared : goal.invariant-loop-declared
invariant-loop-declared l = record {
  scripts : length l.scripts.items ≡ l.declared-index;
  flags : length l.deletable.items ≡ l.declared-index;
  short : (i : ℕ) → i < l.declared-index → length (declared l.machine i).script ≤ most_instructions;
  aimed : (i : ℕ) → i < l.declared-index →
      AreAimed l.machine (declared l.machine i).script (script_at (map (λ s. s.items) l.scripts.items) i);
  deletes : (i : ℕ) → i < l.declared-index →
      slice_index_or l.deletable.items i false ≡ is_deletable l.machine (declared l.machine i).id;
}
