use Rattle.std.proofs.Common.{◌≡◌, ℕ, ◌<◌, true}
use Rattle.l4_core.specs.Inner.Covered.{Covers}
use Rattle.l4_core.specs.Inner.Places.{has}
use Rattle.l4_core.specs.Inner.Settled.{IsOwn}
use Rattle.l4_core.proofs.processor.note_all.Given as goal

abbrev pub invariant-loop-place : goal.invariant-loop-place
invariant-loop-place l =
    Covers l.duties l.known.machine l.known.cpu l.known.local
    × ((other : ℕ) → other < l.place → IsOwn l.known.machine l.known.cpu other → has l.duties other ≡ true)
