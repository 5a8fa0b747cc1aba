use Rattle.std.proofs.Common.{◌≡◌, ◌≤◌, ◌++◌, ℕ, length}
use Rattle.std.specs.List.{AllByRecursion}
use Rattle.l4_merge.specs.Transitions.{letters_with}
use Rattle.l4_mail.specs.Ports.{posted_to, taken_from, kept_from, room_to, place, HasWayTo}
use Rattle.l4_proc.specs.Logs.{HasLetters}
use Rattle.l4_proc.proofs.processor.Processor.post_all.Given as goal

-- What is left to post, and what was posted, are the letters of the event.
abbrev pub invariant-letters : goal.invariant-letters
invariant-letters l = record {
  core : l.self.worker.core ≡ l.initial.self.worker.core;
  hand : l.self.worker.hand ≡ l.initial.self.worker.hand;
  log : HasLetters l.initial.self.worker.log l.self.worker.log;
  place : place l.self.port ≡ place l.initial.self.port;
  posted : (to : ℕ) → posted_to l.self.port to ++ letters_with to l.self.worker.log.buffer.letters ≡
      posted_to l.initial.self.port to ++ letters_with to l.initial.self.worker.log.buffer.letters;
  taken : (from : ℕ) → taken_from l.self.port from ≡ taken_from l.initial.self.port from;
  kept : (from : ℕ) → kept_from l.self.port from ≡ kept_from l.initial.self.port from;
  ways : AllByRecursion (λ p. HasWayTo l.self.port p.0) l.self.worker.log.buffer.letters;
  room : (to : ℕ) → HasWayTo l.self.port to → length l.self.worker.log.buffer.letters ≤ room_to l.self.port to;
}

abbrev pub decreases-letters : goal.decreases-letters
decreases-letters l = length l.self.worker.log.buffer.letters
