-- The letters popped from a ring, and those of them that were taken.
use Rattle.std.specs.Prelude.{◌-◌, List, length, take}
use Rattle.rtrb.specs.Ring.{received}
use Rattle.rtrb.specs.declared.consumer.Consumer.{Consumer}

-- Of the letters that came out of the ring, those that are not kept were given to the processor.
abbrev pub given : {T A P : Type 0} → Consumer T A P → (kept : List T) → List T
given ring kept = take (length (received ring) - length kept) (received ring)
