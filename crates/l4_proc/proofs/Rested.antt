-- Processors that are taken apart for a rest of their ports and put together again.
use Rattle.std.proofs.Common.{◌≡◌, ℕ, zero, suc, ◌-◌, ◌<◌, ◌≤◌, Bool, true, false, ◌&&◌, ◌||◌, not, Option, Some, None, List, [], ◌∷◌, ◌++◌, map, length, take, refl, ap, ap₂, sym, ◌∙◌, subst, append_assoc, append-nil, arith, Vec, Global, get_or, set}
use Rattle.std.specs.Prelude.{◌≢◌, ◌↔◌, IsTrue, is_some, nat_eq, nat_lt, slice_get, ◌==◌}
use Rattle.std.specs.VecDeque.{deque_len}
use Rattle.std.specs.declared.collections.VecDeque.{VecDeque}
use Rattle.std.specs.List.{list_all, list_any, AllZip}
use Rattle.std.proofs.lemmas.Bool.Decides.{nat_tests}
use Rattle.std.proofs.lemmas.List.{length-append, length-map, map-append}
use Rattle.std.proofs.lemmas.Option.{slice_get_within}
use Rattle.std.proofs.Math.Seq.{map-set_same}
use Rattle.l4_model.proofs.Chains.{get-map, some_is}
use Rattle.l4_model.proofs.Places.{and_true}
use Rattle.l4_core_model.specs.Runs.{is_empty}
use Rattle.l4_merge.specs.LocalTraces.{LocalTrace, Begins}
use Rattle.l4_core_model.specs.Letters.{Letter}
use Rattle.l4_mail.specs.Ends.{ring_out}
use Rattle.l4_mail.specs.Ports.{Account, Place, account, carried, fabric_size, kept_from, place, posted_to, AreLinked, AreOneFabric, AreWhole}
use Rattle.l4_mail.specs.Rests.{has_number, have_numbers, have_size, are_all, under_way}
use Rattle.l4_mail.specs.declared.ports.Port.{Port}
use Rattle.l4_mail.proofs.Fabrics.{fabric_kept}
use Rattle.l4_mail.proofs.Whole.{same_length}
use Rattle.l4_proc.specs.Logs.{events, actions}
use Rattle.l4_proc.specs.Rests.{AreAsBefore, HaveHandledAll}
use Rattle.l4_proc.specs.Whole.{hand_from, handled_from, IsWhole}
use Rattle.l4_proc.specs.Working.{past, HaveWorkedOn}
use Rattle.l4_proc.specs.declared.processor.Processor.{Processor}
use Rattle.l4_proc.specs.declared.worker.Worker.{Worker}
use Rattle.l4_proc.proofs.Readying.{whole_kept}
use Rattle.l4_proc.proofs.UnderWay.{is_nothing, keep_none, none_listed, KeepNone}

abbrev pub port_of : Processor → Port
port_of p = p.port

abbrev pub worker_of : Processor → Worker
worker_of p = p.worker

-- Apart and together again

-- One part more was taken off.
pub parted : {A B : Type 0} (f : A → B) (olds news : List B) (y : B) (x : A) (rest left : List A) (all : List B) → news ≡ olds ++ y ∷ [] → y ≡ f x →
    rest ≡ x ∷ left → olds ++ map f rest ≡ all → news ++ map f left ≡ all
parted f olds news y x rest left all more is from before =
    ap (λ ys. ys ++ map f left) more ∙ append_assoc olds (y ∷ []) (map f left)
    ∙ ap (λ ys. olds ++ ys) (ap (λ z. z ∷ map f left) is ∙ ap (map f) (sym from)) ∙ before

-- There is room for one more.
pub room_for : {A B : Type 0} (f : A → B) (xs : List B) (x : A) (rest left : List A) (all : List B) (len capacity : ℕ) → len ≡ length xs → rest ≡ x ∷ left →
    xs ++ map f rest ≡ all → length all ≤ capacity → len < capacity
room_for f xs x rest left all len capacity is from before room =
    omega (arith, is, length-append xs (map f rest), ap length before, length-map rest f, ap length from, room)

pub no_more_ports : (ports : List Port) (ws : List Worker) → AllZip IsWhole ports ws → ws ≡ [] → ports ≡ []
no_more_ports [] ws whole is = refl
no_more_ports (p ∷ ports) [] whole is = absurd whole
no_more_ports (p ∷ ports) (w ∷ ws) whole is = absurd cc

pub no_items : {A : Type 0} (xs : List A) → length xs ≡ 0 → xs ≡ []
no_items [] is = refl
no_items (x ∷ xs) is = absurd cc

pub none_left : {A : Type 0} (q : VecDeque A Global) → deque_len q ≡ 0 → q.items ≡ []
none_left q none = let size = q.ok.0 in no_items q.items (omega arith)

-- A processor is whole with a port that has carried what its own had.
whole_again : (old new : Port) (w : Worker) → account new ≡ account old → IsWhole old w → IsWhole new w
whole_again old new w same is =
    whole_kept old new w w.log (ap (λ (a : Account). a.place) same) (λ from. ap (λ (a : Account). a.taken from) same) refl (λ closed. closed) is

pub all_whole_again : (olds news : List Port) (ws : List Worker) → map account news ≡ map account olds → AllZip IsWhole olds ws → AllZip IsWhole news ws
all_whole_again [] [] ws same is = is
all_whole_again [] (new ∷ news) ws same is = absurd cc
all_whole_again (old ∷ olds) [] ws same is = absurd cc
all_whole_again (old ∷ olds) (new ∷ news) [] same is = is
all_whole_again (old ∷ olds) (new ∷ news) (w ∷ ws) same is =
    let first : account new ≡ account old = cc in
    let rest : map account news ≡ map account olds = cc in
    (whole_again old new w first is.0, all_whole_again olds news ws rest is.1)

map_twice : {A B C : Type 0} (f : A → B) (g : B → C) (xs : List A) → map g (map f xs) ≡ map (λ x. g (f x)) xs
map_twice f g [] = refl
map_twice f g (x ∷ xs) = ap (λ ys. g (f x) ∷ ys) (map_twice f g xs)

pub as_before : (olds news : List Processor) (ports : List Port) → map port_of news ≡ ports → map account ports ≡ map account (map port_of olds) →
    map worker_of news ≡ map worker_of olds → AreAsBefore olds news
as_before olds news ports is same workers = record {
  workers = workers;
  accounts = sym (map_twice port_of account news) ∙ ap (map account) is ∙ same ∙ map_twice port_of account olds;
}

pub again : (olds news : List Processor) (parts slice after back : List Port) (workers : List Worker) → parts ≡ map port_of olds → slice ≡ parts →
    map account after ≡ map account slice → back ≡ after → map port_of news ≡ back → workers ≡ map worker_of olds → map worker_of news ≡ workers → AreAsBefore olds news
again olds news parts slice after back workers apart here same still together off on =
    as_before olds news after (together ∙ still) (same ∙ ap (map account) (here ∙ apart)) (on ∙ off)

pub same_accounts : (olds news : List Processor) → AreAsBefore olds news → map account (map port_of news) ≡ map account (map port_of olds)
same_accounts olds news same = map_twice port_of account news ∙ same.accounts ∙ sym (map_twice port_of account olds)

pub one_again : (olds news : List Processor) → AreAsBefore olds news → AreOneFabric (map port_of olds) → AreOneFabric (map port_of news)
one_again olds news same one = fabric_kept (map port_of olds) (map port_of news) (same_accounts olds news same) one

-- What a caller has of it

-- What a processor has done, as far as its worker and the account of its port tell: that is all.
abbrev past_of : Account → Worker → LocalTrace
past_of a w = record {
  events = events w.log;
  actions = actions w.log;
  posted = λ to. a.posted to;
  handled = λ from. take (length (a.taken from) - length (hand_from w.hand from)) (a.taken from);
  local = w.core.local;
}

-- A processor behind a rest, and before.
pub record IsSame (old new : Processor) : Type 0 where
  pub worker : new.worker ≡ old.worker
  pub account : account new.port ≡ account old.port
  pub past : past new ≡ past old

pub same_at : (olds news : List Processor) (i : ℕ) (old new : Processor) → AreAsBefore olds news → slice_get olds i ≡ Some old → slice_get news i ≡ Some new →
    IsSame old new
same_at olds news i old new same was is =
    let worker : new.worker ≡ old.worker = some_is new.worker old.worker (sym (get-map worker_of news i new is)
    ∙ ap (λ (ws : List Worker). slice_get ws i) same.workers ∙ get-map worker_of olds i old was) in
    let acc : account new.port ≡ account old.port = some_is (account new.port) (account old.port) (sym (get-map (λ (p : Processor). account p.port) news i new is)
    ∙ ap (λ (as_ : List Account). slice_get as_ i) same.accounts ∙ get-map (λ (p : Processor). account p.port) olds i old was) in
    record { worker = worker; account = acc; past = ap₂ past_of acc worker }

pub same_pasts : (olds news : List Processor) → AreAsBefore olds news → map past news ≡ map past olds
same_pasts [] [] same = refl
same_pasts [] (new ∷ news) same = absurd (let workers = same.workers in cc)
same_pasts (old ∷ olds) [] same = absurd (let workers = same.workers in cc)
same_pasts (old ∷ olds) (new ∷ news) same =
    let first = same_at (old ∷ olds) (new ∷ news) zero old new same refl refl in
    let workers = same.workers in
    let accounts = same.accounts in
    let more : map worker_of news ≡ map worker_of olds = cc in
    let rest : map (λ (p : Processor). account p.port) news ≡ map (λ (p : Processor). account p.port) olds = cc in
    ap₂ (λ x xs. x ∷ xs) first.past (same_pasts olds news (record { workers = more; accounts = rest }))

-- Of two processors, with the numbers of their ports: what the one posted was handled by the other, is in hand there, or is kept there.
posted_there : (ps : List Processor) (i j : ℕ) (a b : Processor) → AreWhole (map port_of ps) → i ≢ j → slice_get ps i ≡ Some a → slice_get ps j ≡ Some b →
    posted_to a.port b.port.cpu ≡ handled_from b.port b.worker.hand a.port.cpu
    ++ (hand_from b.worker.hand a.port.cpu ++ kept_from b.port a.port.cpu)
posted_there ps i j a b whole ne e f =
    let from = a.port.cpu in
    let carried_at : (k : ℕ) (p : Processor) → slice_get ps k ≡ Some p → slice_get (map carried (map port_of ps)) k ≡ Some (carried p.port) =
    λ k p g. get-map carried (map port_of ps) k p.port (get-map port_of ps k p g) in
    let all = whole i j ne (carried a.port) (carried b.port) (carried_at i a e) (carried_at j b f) in
    (all ∙ ap (λ (ls : List Letter). ls ++ kept_from b.port from) (b.whole.hand from)
    ∙ append_assoc (handled_from b.port b.worker.hand from) (hand_from b.worker.hand from) (kept_from b.port from))

-- The same with the numbers of the processors.
pub posted_is : (ps : List Processor) (i j : ℕ) (a b : Processor) → AreWhole (map port_of ps) → i ≢ j → slice_get ps i ≡ Some a → slice_get ps j ≡ Some b →
    (past a).posted b.worker.core.cpu ≡ (past b).handled a.worker.core.cpu
    ++ (hand_from b.worker.hand a.worker.core.cpu ++ kept_from b.port a.worker.core.cpu)
posted_is ps i j a b whole ne e f =
    subst (λ (from : ℕ). posted_to a.port b.worker.core.cpu ≡ handled_from b.port b.worker.hand from
    ++ (hand_from b.worker.hand from ++ kept_from b.port from)) a.whole.port_of.number
    (subst (λ (to : ℕ). posted_to a.port to ≡ handled_from b.port b.worker.hand a.port.cpu
    ++ (hand_from b.worker.hand a.port.cpu ++ kept_from b.port a.port.cpu)) b.whole.port_of.number
    (posted_there ps i j a b whole ne e f))

pub handled_begins : (ps : List Processor) (i j : ℕ) (a b : Processor) → AreWhole (map port_of ps) → i ≢ j → slice_get ps i ≡ Some a → slice_get ps j ≡ Some b →
    Begins ((past b).handled a.worker.core.cpu) ((past a).posted b.worker.core.cpu)
handled_begins ps i j a b whole ne e f = record { rest = _; is = posted_is ps i j a b whole ne e f }

pub all_is_handled : (ps : List Processor) (i j : ℕ) (a b : Processor) → AreWhole (map port_of ps) → HaveHandledAll ps → i ≢ j → slice_get ps i ≡ Some a →
    slice_get ps j ≡ Some b → (past a).posted b.worker.core.cpu ≡ (past b).handled a.worker.core.cpu
all_is_handled ps i j a b whole all ne e f =
    let from = a.worker.core.cpu in
    let kept : kept_from b.port from ≡ [] = subst (λ (k : ℕ). kept_from b.port k ≡ []) a.whole.port_of.number (all.kept i j a b ne e f) in
    posted_is ps i j a b whole ne e f
    ∙ ap (λ (ls : List Letter). (past b).handled from ++ ls) (ap₂ (λ (xs ys : List Letter). xs ++ ys)
    (ap (λ (hand : Option (ℕ × Letter)). hand_from hand from) (all.hand j b f)) kept)
    ∙ append-nil ((past b).handled from)

-- Whether they are all

pub number_is_there : (ps : List Processor) (cpu : ℕ) → list_any (λ (p : Processor). nat_eq p.port.cpu cpu) ps ≡ has_number cpu (map port_of ps)
number_is_there [] cpu = refl
number_is_there (p ∷ ps) cpu = ap (λ b. nat_eq p.port.cpu cpu || b) (number_is_there ps cpu)

pub sizes_are : (ps : List Processor) (n : ℕ) → list_all (λ (p : Processor). nat_eq (fabric_size p.port) n) ps ≡ have_size n (map port_of ps)
sizes_are [] n = refl
sizes_are (p ∷ ps) n = ap (λ b. nat_eq (fabric_size p.port) n && b) (sizes_are ps n)

same_number : (cpu : ℕ) (olds news : List Port) → map account news ≡ map account olds → has_number cpu news ≡ has_number cpu olds
same_number cpu [] [] same = refl
same_number cpu [] (new ∷ news) same = absurd cc
same_number cpu (old ∷ olds) [] same = absurd cc
same_number cpu (old ∷ olds) (new ∷ news) same =
    let first : account new ≡ account old = cc in
    let rest : map account news ≡ map account olds = cc in
    ap₂ (λ i b. nat_eq i cpu || b) (ap (λ (a : Account). a.place.cpu) first) (same_number cpu olds news rest)

same_numbers : (below : ℕ) (olds news : List Port) → map account news ≡ map account olds → have_numbers below news ≡ have_numbers below olds
same_numbers zero olds news same = refl
same_numbers (suc n) olds news same = ap₂ (λ a b. a && b) (same_numbers n olds news same) (same_number n olds news same)

same_sizes : (n : ℕ) (olds news : List Port) → map account news ≡ map account olds → have_size n news ≡ have_size n olds
same_sizes n [] [] same = refl
same_sizes n [] (new ∷ news) same = absurd cc
same_sizes n (old ∷ olds) [] same = absurd cc
same_sizes n (old ∷ olds) (new ∷ news) same =
    let first : account new ≡ account old = cc in
    let rest : map account news ≡ map account olds = cc in
    let size : fabric_size new ≡ fabric_size old = sym (length-map new.outlets.items ring_out) ∙ ap (λ (a : Account). length a.place.outs) first
    ∙ length-map old.outlets.items ring_out in
    ap₂ (λ i b. nat_eq i n && b) size (same_sizes n olds news rest)

same_all : (olds news : List Port) → map account news ≡ map account olds → are_all news ≡ are_all olds
same_all olds news same =
    let len = same_length account news olds same in
    ap (λ (n : ℕ). nat_lt 0 n && (have_size n news && have_numbers n news)) len
    ∙ ap₂ (λ a b. nat_lt 0 (length olds) && (a && b)) (same_sizes (length olds) olds news same) (same_numbers (length olds) olds news same)

pub all_again : (olds news : List Processor) → AreAsBefore olds news → are_all (map port_of olds) ≡ true → are_all (map port_of news) ≡ true
all_again olds news same all = same_all (map port_of olds) (map port_of news) (same_accounts olds news same) ∙ all

-- Whether they are all, as it is found out.
pub all_are : (ps : List Processor) → are_all (map port_of ps) ≡ (nat_lt 0 (length ps) && (list_all (λ (p : Processor). nat_eq (fabric_size p.port) (length ps)) ps
    && have_numbers (length ps) (map port_of ps)))
all_are ps =
    let ports = map port_of ps in
    ap (λ (n : ℕ). nat_lt 0 n && (have_size n ports && have_numbers n ports)) (length-map ps port_of)
    ∙ ap (λ b. nat_lt 0 (length ps) && (b && have_numbers (length ps) ports)) (sym (sizes_are ps (length ps)))

some_there : (n : ℕ) → (n == 0) ≡ false → nat_lt 0 n ≡ true
some_there n is = grind (arith, nat_tests)

none_there : (n : ℕ) → (n == 0) ≡ true → nat_lt 0 n ≡ false
none_there n is = grind (arith, nat_tests)

pub all_found : (ps : List Processor) (none sizes numbers : Bool) → none ≡ (length ps == 0) → none ≡ false →
    sizes ≡ list_all (λ (p : Processor). nat_eq (fabric_size p.port) (length ps)) ps → sizes ≡ true → numbers ≡ have_numbers (length ps) (map port_of ps) →
    numbers ≡ are_all (map port_of ps)
all_found ps none sizes numbers empty some all same is =
    is ∙ sym (all_are ps ∙ ap₂ (λ a b. a && (b && have_numbers (length ps) (map port_of ps))) (some_there (length ps) (sym empty ∙ some)) (sym all ∙ same))

pub none_found : (ps : List Processor) (none : Bool) → none ≡ (length ps == 0) → none ≡ true → false ≡ are_all (map port_of ps)
none_found ps none empty is = sym (all_are ps
    ∙ ap (λ a. a && (list_all (λ (p : Processor). nat_eq (fabric_size p.port) (length ps)) ps && have_numbers (length ps) (map port_of ps)))
    (none_there (length ps) (sym empty ∙ is)))

pub other_found : (ps : List Processor) (sizes : Bool) → sizes ≡ list_all (λ (p : Processor). nat_eq (fabric_size p.port) (length ps)) ps → sizes ≡ false →
    false ≡ are_all (map port_of ps)
other_found ps sizes all is = sym (all_are ps ∙ ap (λ b. nat_lt 0 (length ps) && (b && have_numbers (length ps) (map port_of ps))) (sym all ∙ is)
    ∙ and_false (nat_lt 0 (length ps)))
  where
    and_false : (b : Bool) → (b && false) ≡ false
    and_false true = refl
    and_false false = refl

-- Whether all is handled, as it is found out

list_all_map : {A B : Type 0} (f : A → B) (test : B → Bool) (xs : List A) → list_all (λ x. test (f x)) xs ≡ list_all test (map f xs)
list_all_map f test [] = refl
list_all_map f test (x ∷ xs) = ap (λ b. test (f x) && b) (list_all_map f test xs)

none_in_hand : (ps : List Processor) → list_any (λ (p : Processor). is_some p.worker.hand) ps ≡ false → (i : ℕ) (p : Processor) → slice_get ps i ≡ Some p →
    p.worker.hand ≡ None
none_in_hand [] none i p at = absurd cc
none_in_hand (q ∷ ps) none zero p at = by q.worker.hand refl none
  where
    by : (hand : Option (ℕ × Letter)) → q.worker.hand ≡ hand → (is_some hand || list_any (λ (p : Processor). is_some p.worker.hand) ps) ≡ false → p.worker.hand ≡ None
    by None is none = ap (λ (x : Processor). x.worker.hand) (sym (some_is q p at)) ∙ is
    by (Some x) is none = absurd cc
none_in_hand (q ∷ ps) none (suc i) p at = none_in_hand ps (later (is_some q.worker.hand) none) i p at
  where
    later : (b : Bool) → (b || list_any (λ (p : Processor). is_some p.worker.hand) ps) ≡ false → list_any (λ (p : Processor). is_some p.worker.hand) ps ≡ false
    later true none = absurd cc
    later false none = none

no_hand : (ps : List Processor) → ((i : ℕ) (p : Processor) → slice_get ps i ≡ Some p → p.worker.hand ≡ None) →
    list_any (λ (p : Processor). is_some p.worker.hand) ps ≡ false
no_hand [] none = refl
no_hand (p ∷ ps) none = ap₂ (λ a b. a || b) (ap is_some (none zero p refl)) (no_hand ps (λ i q at. none (suc i) q at))

kept_of : (ps : List Processor) → KeepNone (map port_of ps) → (i j : ℕ) (from to : Processor) → i ≢ j → slice_get ps i ≡ Some from → slice_get ps j ≡ Some to →
    kept_from to.port from.port.cpu ≡ []
kept_of ps none i j from to ne e f = none i j from.port to.port ne (get-map port_of ps i from e) (get-map port_of ps j to f)

-- The processor of a port.
pub record IsOf (ps : List Processor) (i : ℕ) (port : Port) : Type 0 where
  pub processor : Processor
  pub at : slice_get ps i ≡ Some processor
  pub its : processor.port ≡ port

pub processor_of : (ps : List Processor) (i : ℕ) (port : Port) → slice_get (map port_of ps) i ≡ Some port → IsOf ps i port
processor_of [] i port at = absurd cc
processor_of (p ∷ ps) zero port at = record { processor = p; at = refl; its = some_is p.port port at }
processor_of (p ∷ ps) (suc i) port at =
    let h = processor_of ps i port at in
    record { processor = h.processor; at = h.at; its = h.its }

keep_none_of : (ps : List Processor) → HaveHandledAll ps → KeepNone (map port_of ps)
keep_none_of ps all i j from to ne e f =
    let a = processor_of ps i from e in
    let b = processor_of ps j to f in
    ap₂ (λ (p q : Port). kept_from p q.cpu) (sym b.its) (sym a.its) ∙ all.kept i j a.processor b.processor ne a.at b.at

pub nothing_listed : (ways : List (ℕ × ℕ × Vec Letter Global)) (ports : List Port) → map (λ (way : ℕ × ℕ × Vec Letter Global). (way.0, way.1, way.2.items)) ways ≡ under_way ports →
    list_all (λ (way : ℕ × ℕ × Vec Letter Global). is_empty way.2.items) ways ≡ list_all is_nothing (under_way ports)
nothing_listed ways ports is = list_all_map (λ (way : ℕ × ℕ × Vec Letter Global). (way.0, way.1, way.2.items)) is_nothing ways ∙ ap (list_all is_nothing) is

-- One alone has all handled where it has no letter in hand.
pub alone_handled : (ps : List Processor) (any : Bool) → length ps ≡ 1 → any ≡ list_any (λ (p : Processor). is_some p.worker.hand) ps →
    (IsTrue (not any) → HaveHandledAll ps) × (HaveHandledAll ps → IsTrue (not any))
alone_handled ps any one is = (λ none. all (not_false any none), λ handled. ap not (is ∙ no_hand ps handled.hand))
  where
    not_false : (b : Bool) → IsTrue (not b) → b ≡ false
    not_false true is = absurd cc
    not_false false is = refl

    first : (i : ℕ) (p : Processor) → slice_get ps i ≡ Some p → i ≡ 0
    first i p at = let lt = slice_get_within ps i p at in omega (arith, lt, one)

    all : any ≡ false → HaveHandledAll ps
    all none = record {
      hand = λ i p at. none_in_hand ps (sym is ∙ none) i p at;
      kept = λ i j from to apart e f. absurd (apart (first i from e ∙ sym (first j to f)));
    }

-- What was found out tells whether all is handled.
pub found : (ps : List Processor) (nothing held : Bool) → AreOneFabric (map port_of ps) → are_all (map port_of ps) ≡ true →
    nothing ≡ list_all is_nothing (under_way (map port_of ps)) → held ≡ list_any (λ (p : Processor). is_some p.worker.hand) ps →
    ((nothing && not held) ≡ true) ↔ HaveHandledAll ps
found ps nothing held one all is hand = (
  (λ both.
      let b = and_true nothing (not held) both in
      record {
        hand = none_in_hand ps (sym hand ∙ not_true held b.1);
        kept = kept_of ps (keep_none (map port_of ps) one all (sym is ∙ b.0));
      }),
  (λ h. ap₂ (λ x y. x && not y) (is ∙ none_listed (map port_of ps) one all (keep_none_of ps h)) (hand ∙ no_hand ps h.hand)),
)
  where
    not_true : (b : Bool) → not b ≡ true → b ≡ false
    not_true true e = absurd cc
    not_true false e = refl

-- Some of the processors of a fabric

front : {A : Type 0} (xs ys : List A) (i : ℕ) (x : A) → slice_get xs i ≡ Some x → slice_get (xs ++ ys) i ≡ Some x
front [] ys i x at = absurd cc
front (y ∷ xs) ys zero x at = at
front (y ∷ xs) ys (suc i) x at = front xs ys i x at

-- The first of them are of one fabric too.
pub one_of_first : (xs ys : List Processor) → AreOneFabric (map port_of (xs ++ ys)) → AreOneFabric (map port_of xs)
one_of_first xs ys one i j from to e f ne =
    let places : map place (map port_of (xs ++ ys)) ≡ map place (map port_of xs) ++ map place (map port_of ys) =
    ap (map place) (map-append port_of xs ys) ∙ map-append place (map port_of xs) (map port_of ys) in
    let at : (k : ℕ) (p : Place) → slice_get (map place (map port_of xs)) k ≡ Some p → slice_get (map place (map port_of (xs ++ ys))) k ≡ Some p =
    λ k p g. ap (λ (ps : List Place). slice_get ps k) places ∙ front (map place (map port_of xs)) (map place (map port_of ys)) k p g in
    one i j from to (at i from e) (at j to f) ne

-- One of them has gone on, in its place.
pub one_of_set : (ps : List Processor) (i : ℕ) (p d : Processor) → place p.port ≡ place (get_or ps i d).port → AreOneFabric (map port_of ps) →
    AreOneFabric (map port_of (set ps i p))
one_of_set ps i p d same one =
    subst AreLinked (sym (map_twice port_of place (set ps i p) ∙ map-set_same (λ (q : Processor). place q.port) ps i p d same ∙ sym (map_twice port_of place ps))) one

-- All have gone on, each in its place.
pub one_of_worked : (turns : ℕ) (olds news : List Processor) → HaveWorkedOn turns olds news → AreOneFabric (map port_of olds) → AreOneFabric (map port_of news)
one_of_worked turns olds news worked one = subst AreLinked (sym (places olds news worked.for_each (λ i old new was is. (worked.each i old new was is).on.place))) one
  where
    places : (olds news : List Processor) → length news ≡ length olds →
        ((i : ℕ) (old new : Processor) → slice_get olds i ≡ Some old → slice_get news i ≡ Some new → place new.port ≡ place old.port) →
        map place (map port_of news) ≡ map place (map port_of olds)
    places [] [] len each = refl
    places [] (new ∷ news) len each = absurd (omega arith)
    places (old ∷ olds) [] len each = absurd (omega arith)
    places (old ∷ olds) (new ∷ news) len each =
        ap₂ (λ x xs. x ∷ xs) (each zero old new refl refl) (places olds news (omega arith) (λ i a b was is. each (suc i) a b was is))
