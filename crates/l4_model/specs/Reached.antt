-- What is true of every world that a history reaches.
use Rattle.std.specs.Prelude.{ℕ, ◌<◌, ◌≤◌, ◌≡◌, true, false, Option, Some, None, is_some, IfSome, IsSomeAnd, List, [], ◌∷◌, length, slice_get, slice_index}
use Rattle.std.specs.List.{AllByRecursion}
use Rattle.l4_model.specs.Words.{GlobalId, Id, GlobalThread, register_count, clock_limit}
use Rattle.l4_model.specs.Machine.{Machine, Declaration, place_of, is_declared}
use Rattle.l4_model.specs.World.{Send, PendingOrder, Phase, Ready, Sending, Receiving, Ordering, Ended, Deleted, Thread, World, Owed, same_name, is_in, list_at}
use Rattle.l4_model.specs.Effects.{has_receive_phase}

-- The undecided send and the undone order that go with a phase: a thread that is alive has a send
-- exactly while it is sending, and an order exactly while it is ordering.
abbrev pub Suits : Phase → Option Send → Option PendingOrder → Type 0
Suits Ready send order = (send ≡ None) × (order ≡ None)
Suits Sending send order = (is_some send ≡ true) × (order ≡ None)
Suits (Receiving receive since) send order = (send ≡ None) × (order ≡ None)
Suits Ordering send order = (send ≡ None) × (is_some order ≡ true)
Suits Ended send order = (send ≡ None) × (order ≡ None)
Suits Deleted send order = Unit {0}

-- A phase began no later than now.
abbrev pub BeganBy : ℕ → Phase → Type 0
BeganBy now (Receiving receive since) = since ≤ now
BeganBy now _ = Unit {0}

-- An undecided send began no later than now, is of its thread, shows a declared sender, and has at
-- most 63 words.
pub record IsSendOf (m : Machine) (thread : GlobalId) (now : ℕ) (send : Send) : Type 0 where
  pub since : send.since ≤ now
  pub actual : send.message.actual ≡ thread
  pub shown : is_declared m send.message.shown ≡ true
  pub short : length send.message.words < register_count

-- Of each thread, with what is declared of it and the clock of its processor.
pub record ThreadFacts (m : Machine) (d : Declaration) (now : ℕ) (t : Thread) : Type 0 where
  pub suits : Suits t.phase t.send t.order
  pub send : IfSome t.send (IsSendOf m d.id now)
  pub began : BeganBy now t.phase
  pub send_wish : t.cancel_send ≡ true → is_some t.send ≡ true
  pub receive_wish : t.cancel_receive ≡ true → has_receive_phase t.phase t.send ≡ true
  pub registers : length t.context.words ≡ register_count

-- The place of the thread that an id names.
abbrev pub place_to : Machine → Id → Option ℕ
place_to m (GlobalThread t) = place_of m t
place_to m _ = None

-- A list has no place twice.
abbrev pub IsOnce : List ℕ → Type 0
IsOnce [] = Unit {0}
IsOnce (x ∷ xs) = (is_in x xs ≡ false) × IsOnce xs

-- A thread's undecided send goes to the thread at a place.
abbrev pub SendsTo : Machine → ℕ → Option Send → Type 0
SendsTo m receiver send = IsSomeAnd send (λ x. place_to m x.to ≡ Some receiver)

-- A retarget is owed in profile 2 alone, and who is named in it is declared.
pub record IsOwedAmong (m : Machine) (o : Owed) : Type 0 where
  pub profile : m.retargeting ≡ true
  pub originator : is_declared m o.originator ≡ true
  pub old_partner : is_declared m o.old_partner ≡ true
  pub new_partner : is_declared m o.new_partner ≡ true

-- No two owed retargets have one name.
abbrev pub AreNamedOnce : List Owed → Type 0
AreNamedOnce [] = Unit {0}
AreNamedOnce (o ∷ owed) = AllByRecursion (λ x. same_name o.send x.send ≡ false) owed ×
    AreNamedOnce owed

-- While one is owed, no send of its new partner stands in the list of its originator.
abbrev pub IsOwedApart : Machine → List (List ℕ) → Owed → Type 0
IsOwedApart m lists o =
    (originator new_partner : ℕ) → place_of m o.originator ≡ Some originator →
    place_of m o.new_partner ≡ Some new_partner →
    is_in new_partner (list_at lists originator) ≡ false

-- Of the whole world. The sender in a list has an undecided send to the list's thread, and stands
-- in no other list and there once.
pub record WorldFacts (m : Machine) (w : World) : Type 0 where
  pub threads_counted : length w.threads ≡ length m.threads
  pub lists_counted : length w.waiting ≡ length m.threads
  pub clocks_counted : length w.clocks ≡ m.cpus
  pub clocks_low : AllByRecursion (λ clock. clock < clock_limit) w.clocks
  pub each_thread : (i : ℕ) (d : Declaration) (t : Thread) → slice_get m.threads i ≡ Some d →
      slice_get w.threads i ≡ Some t → ThreadFacts m d (slice_index w.clocks d.cpu) t
  pub listed_sends : (receiver sender : ℕ) → is_in sender (list_at w.waiting receiver) ≡ true →
      IsSomeAnd (slice_get w.threads sender) (λ t. SendsTo m receiver t.send)
  pub one_list : (i j sender : ℕ) → is_in sender (list_at w.waiting i) ≡ true →
      is_in sender (list_at w.waiting j) ≡ true → i ≡ j
  pub listed_once : (receiver : ℕ) → IsOnce (list_at w.waiting receiver)
  pub owed_among : AllByRecursion (IsOwedAmong m) w.owed
  pub owed_once : AreNamedOnce w.owed
  pub owed_apart : AllByRecursion (IsOwedApart m w.waiting) w.owed
