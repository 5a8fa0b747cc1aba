-- Lists where nobody waits.
use Rattle.std.specs.Prelude.{ℕ, [], map, filter, length}
use Rattle.std.specs.List.{range_with_len}
use Rattle.l4_model.specs.Machine.{Machine}
use Rattle.l4_core_model.specs.Plain.{Plain}
use Rattle.l4_core_model.specs.Local.{is_own}

-- The threads of a processor below a place are ready, in order.
abbrev pub lists_below : Machine → (cpu place : ℕ) → Plain
lists_below m cpu place = record {
  waiting = map (λ d. []) m.threads;
  ready = filter (is_own m cpu) (range_with_len 0 place);
  armed = [];
}

abbrev pub opening_lists : Machine → (cpu : ℕ) → Plain
opening_lists m cpu = lists_below m cpu (length m.threads)
