-- What a search may try next in a world. An entry names a thread and a kind of step, or an owed
-- retarget by its place. Ticks are no entries: a finite period may be over at once.
use Rattle.std.specs.Prelude.{ℕ, ◌+◌, ◌-◌, ◌*◌, ◌/◌, ◌%◌, nat_lt, if◌then◌else◌, Option, Some, None, is_some, List, [], ◌∷◌, ◌++◌, length, find, filter_map, slice_get}
use Rattle.std.specs.List.{range_with_len}
use Rattle.std.specs.Option.{option_map}
use Rattle.l4_model.specs.Words.{GlobalId}
use Rattle.l4_model.specs.Machine.{Machine}
use Rattle.l4_model.specs.World.{Name, World, Owed, PendingOrder, opening}
use Rattle.l4_model.specs.Rules.{Failure, TimeOver, NobodyThere, CancelAsked, received_tag, is_cross}
use Rattle.l4_model.specs.Conditions.{◌>>=◌, ◌>>◌, Found, found_at, undecided, receiver_of, act_of}
use Rattle.l4_model.specs.Steps.{Step, OfThread, OfSend, Fails, Failed, Local, Begin, Queue, Deliver, Wait, Drop, Order, Obey, Retarget, order_of}
use Rattle.l4_worlds.specs.Late.{next_late}
use Rattle.l4_first.specs.First.{stands_alone}

-- The next send of a thread, and the last that it began.

abbrev pub coming_name : Found → Name
coming_name t = record { thread = t.declared.id; k = t.now.context.begun + 1 }

abbrev pub last_name : Found → Name
last_name t = record { thread = t.declared.id; k = t.now.context.begun }

-- The delivery of a send, told as it was sent.
abbrev pub delivery : Machine → World → Name → Option Step
delivery m w s = do
  p ← undecided m w s
  r ← receiver_of m w p
  Some (Deliver s r.declared.id p.send.message.shown p.send.message.actual
      (received_tag (is_cross m r.declared.id p.send.message) p.send.message) p.send.message.words)

abbrev pub order_step : GlobalId → Option PendingOrder → Option Step
order_step caller asked = option_map (λ o. Order caller o.target o.what) asked

-- For each reason, a send fails and a receive phase does.
abbrev pub failing : GlobalId → Name → Failure → List (Option Step)
failing id last why = Some (OfSend (Failed why) last) ∷ Some (OfThread (Fails why) id) ∷ []

-- The steps that a thread may be in for, in the order of the table of steps.
abbrev pub in_order : Machine → World → Found → GlobalId → (coming last : Name) →
    List (Option Step)
in_order m w t id coming last =
    (Some (Local id)
    ∷ Some (Begin coming)
    ∷ Some (Queue last)
    ∷ delivery m w last
    ∷ Some (Wait id)
    ∷ failing id last TimeOver)
    ++ failing id last NobodyThere
    ++ failing id last CancelAsked
    ++ (Some (Drop last)
    ∷ order_step id (order_of (act_of m t))
    ∷ Some (Obey id)
    ∷ [])

abbrev pub kinds : ℕ
kinds = 14

abbrev pub step_of : Machine → World → Option Found → (kind : ℕ) → Option Step
step_of m w None kind = None
step_of m w (Some t) kind =
    slice_get (in_order m w t t.declared.id (coming_name t) (last_name t)) kind >>= λ o. o

abbrev pub retarget_of : Option Owed → Option Step
retarget_of o = option_map (λ x. Retarget x.send) o

-- The step that an entry names. Entries of threads come first, then those of owed retargets.
abbrev pub step_at : Machine → World → (entry : ℕ) → Option Step
step_at m w entry =
    if nat_lt entry (length m.threads * kinds)
    then step_of m w (found_at m w (entry / kinds)) (entry % kinds)
    else retarget_of (slice_get w.owed (entry - length m.threads * kinds))

abbrev pub entry_count : Machine → World → ℕ
entry_count m w = length m.threads * kinds + length w.owed

-- An entry, and the step that it names.
pub record Choice : Type 0 where
  pub entry : ℕ
  pub step : Step

abbrev pub choice_at : Machine → World → ℕ → Option Choice
choice_at m w entry = do
  step ← step_at m w entry
  is_some (next_late m w step)
  Some (record { entry = entry; step = step })

-- All that is possible, by rising entries.
abbrev pub possible : Machine → World → List Choice
possible m w = filter_map (choice_at m w) (range_with_len 0 (entry_count m w))

-- What a search tries: the first that stands alone, or else all.
abbrev pub tried : Machine → World → List Choice
tried m w = one_or_all (find (λ c. stands_alone m c.step) (possible m w))
  where
    one_or_all : Option Choice → List Choice
    one_or_all None = possible m w
    one_or_all (Some own) = own ∷ []

-- The world that entries lead to.

abbrev pub after_entry : Machine → World → ℕ → Option World
after_entry m w entry = step_at m w entry >>= next_late m w

abbrev pub after_entries : Machine → World → List ℕ → Option World
after_entries m w [] = Some w
after_entries m w (entry ∷ entries) = after_entry m w entry >>= λ v. after_entries m v entries

abbrev pub world_after : Machine → List ℕ → Option World
world_after m entries = after_entries m (opening m) entries
