-- The ports of a new fabric, each with its processor.
use Rattle.std.proofs.Common.{◌≡◌, ℕ, zero, suc, ◌<◌, true, Some, None, List, [], ◌∷◌, ◌++◌, map, length, refl, ap, sym, ◌∙◌, subst, arith, append_assoc}
use Rattle.std.specs.Prelude.{slice_get, is_some}
use Rattle.std.specs.Option.{option_map}
use Rattle.std.proofs.lemmas.Option.{slice_get-map}
use Rattle.std.proofs.lemmas.List.{append-nil, length-map, map-append}
use Rattle.l4_model.specs.Machine.{Machine}
use Rattle.l4_core_model.specs.Local.{opening_local}
use Rattle.l4_merge.specs.LocalTraces.{empty_past, Extends}
use Rattle.l4_core.specs.Processor as cores
use Rattle.l4_mail.specs.Inner.Fabrics.{HaveRooms, AreFresh}
use Rattle.l4_mail.specs.Ports.{AreOneFabric, place, kept_from, HasWayTo, IsApart}
use Rattle.l4_mail.specs.declared.ports.Port.{Port}
use Rattle.l4_proc.specs.declared.processor.Processor.{Processor}
use Rattle.l4_proc.specs.Inner.Assembled.{AreAssembled, IsOpening}
use Rattle.l4_proc.specs.Logs.{events}
use Rattle.l4_proc.specs.Whole.{has_way, IsFreshPort, IsPortOf}
use Rattle.l4_proc.specs.Working.{past, turns_of}
use Rattle.l4_proc.specs.declared.stops.Stop.TheVariants as stop

seam : {A : Type 0} (xs ys : List A) (y : A) → slice_get (xs ++ y ∷ ys) (length xs) ≡ Some y
seam [] ys y = refl
seam (x ∷ xs) ys y = seam xs ys y

pushed_at : {A : Type 0} (P : ℕ → A → Type 0) (xs : List A) (y : A) → ((i : ℕ) (x : A) → slice_get xs i ≡ Some x → P i x) → P (length xs) y →
    (i : ℕ) (x : A) → slice_get (xs ++ y ∷ []) i ≡ Some x → P i x
pushed_at P [] y each last zero x is =
    let same : y ≡ x = cc in
    subst (P 0) same last
pushed_at P [] y each last (suc i) x is = absurd cc
pushed_at P (z ∷ zs) y each last zero x is = each zero x is
pushed_at P (z ∷ zs) y each last (suc i) x is = pushed_at (λ i. P (suc i)) zs y (λ i x e. each (suc i) x e) last i x is

has : (port : Port) (to : ℕ) → HasWayTo port to → has_way port to ≡ true
has port to w = ap is_some w.1

pub next_number : {room : ℕ} (n : ℕ) (done rest : List Port) (port : Port) → AreFresh room n (done ++ port ∷ rest) → port.cpu ≡ length done
next_number n done rest port f = f.cpu (length done) port (seam done rest port)

pub next_port_of : {room : ℕ} (n : ℕ) (done rest : List Port) (port : Port) (c : cores.Processor) → AreFresh room n (done ++ port ∷ rest) → c.machine.cpus ≡ n →
    c.cpu ≡ port.cpu → IsPortOf port c
next_port_of n done rest port c f size number =
    let at = seam done rest port in
    record {
      number = sym number;
      size = f.size (length done) port at ∙ sym size;
      ways = λ to lt other. has port to (f.ways (length done) port at to (subst (λ (k : ℕ). to < k) size lt) (λ same. other (same
          ∙ sym (f.cpu (length done) port at) ∙ sym number)));
    }

next_apart : {room : ℕ} (n : ℕ) (done rest : List Port) (port : Port) → AreFresh room n (done ++ port ∷ rest) → IsApart (place port)
next_apart n done rest port f = f.apart (length done) port (seam done rest port)

pub next_fresh : {room : ℕ} (n : ℕ) (done rest : List Port) (port : Port) → AreFresh room n (done ++ port ∷ rest) → IsFreshPort port
next_fresh n done rest port f =
    let at = seam done rest port in
    record { posted = f.posted (length done) port at; taken = f.taken (length done) port at }

next_kept : {room : ℕ} (n : ℕ) (done rest : List Port) (port : Port) → AreFresh room n (done ++ port ∷ rest) → (from : ℕ) → kept_from port from ≡ []
next_kept n done rest port f = f.kept (length done) port (seam done rest port)

pub one_more : (m : Machine) (ps : List Processor) (p : Processor) → ((cpu : ℕ) (q : Processor) → slice_get ps cpu ≡ Some q → IsOpening m cpu q) →
    IsOpening m (length ps) p →
    (cpu : ℕ) (q : Processor) → slice_get (ps ++ p ∷ []) cpu ≡ Some q → IsOpening m cpu q
one_more m ps p each last = pushed_at (IsOpening m) ps p each last

opened : (m : Machine) (n k : ℕ) (p : Processor) (c : cores.Processor) → p.worker.core ≡ c → c ≡ record { machine = m; cpu = k; local = opening_local m k } → k ≡ n →
    Extends c.machine c.cpu (empty_past c.local) (past p) → p.worker.hand ≡ None → turns_of p ≡ 0 → p.worker.stop ≡ stop.Used → IsApart (place p.port) →
    IsFreshPort p.port → ((from : ℕ) → kept_from p.port from ≡ []) → events p.worker.log ≡ [] → IsOpening m n p
opened m n k p c core is number worked hand turns used apart fresh kept none =
    let at : c ≡ record { machine = m; cpu = n; local = opening_local m n } = is
    ∙ ap (λ (i : ℕ). record { machine = m; cpu = i; local = opening_local m i }) number in
    record {
      machine = ap (λ (x : cores.Processor). x.machine) (core ∙ at);
      number = ap (λ (x : cores.Processor). x.cpu) (core ∙ at);
      worked = subst (λ (x : cores.Processor). Extends x.machine x.cpu (empty_past x.local) (past p)) at worked;
      local = ap (λ (x : cores.Processor). x.local) (core ∙ at);
      events = none;
      posted = fresh.posted;
      taken = fresh.taken;
      kept = kept;
      hand = hand;
      turns = turns;
      stop = used;
      apart = apart;
    }

-- What is kept while the ports get their processors.
pub record HaveProcessors (room : ℕ) (m : Machine) (done rest : List Port) (ps : List Processor) : Type 0 where
  pub fresh : AreFresh room m.cpus (done ++ rest)
  pub ports : map (λ (p : Processor). p.port) ps ≡ done
  pub each : (cpu : ℕ) (p : Processor) → slice_get ps cpu ≡ Some p → IsOpening m cpu p

pub next_has : (room : ℕ) (m : Machine) (done rest all : List Port) (ps news : List Processor) (port : Port) (p : Processor) (c : cores.Processor) (k : ℕ) →
    HaveProcessors room m done all ps → all ≡ port ∷ rest → news ≡ ps ++ p ∷ [] →
    p.port ≡ port → p.worker.core ≡ c → c ≡ record { machine = m; cpu = k; local = opening_local m k } → k ≡ port.cpu →
    Extends c.machine c.cpu (empty_past c.local) (past p) → p.worker.hand ≡ None → turns_of p ≡ 0 →
    p.worker.stop ≡ stop.Used → events p.worker.log ≡ [] → HaveProcessors room m (done ++ port ∷ []) rest news
next_has room m done rest all ps news port p c k h is more same core at number worked hand turns used none =
    let fresh = subst (λ (ls : List Port). AreFresh room m.cpus (done ++ ls)) is h.fresh in
    let number_is : k ≡ length ps = number ∙ next_number m.cpus done rest port fresh ∙ ap length (sym h.ports) ∙ length-map ps (λ (q : Processor). q.port) in
    let new = subst IsFreshPort (sym same) (next_fresh m.cpus done rest port fresh) in
    let apart = subst (λ (q : Port). IsApart (place q)) (sym same) (next_apart m.cpus done rest port fresh) in
    let kept = subst (λ (q : Port). (from : ℕ) → kept_from q from ≡ []) (sym same) (next_kept m.cpus done rest port fresh) in
    record {
      fresh = subst (AreFresh room m.cpus) (sym (append_assoc done (port ∷ []) rest)) fresh;
      ports = ap (map (λ (q : Processor). q.port)) more ∙ map-append (λ (q : Processor). q.port) ps (p ∷ [])
          ∙ ap (λ (ls : List Port). ls ++ p.port ∷ []) h.ports ∙ ap (λ (q : Port). done ++ q ∷ []) same;
      each = λ cpu q e. one_more m ps p h.each (opened m (length ps) k p c core at number_is worked hand turns used apart new kept none) cpu q (ap (λ (ls : List Processor).
          slice_get ls cpu) (sym more) ∙ e);
    }

-- The rings of each processor have the room that those of its port have.
rooms_of : (room n : ℕ) (ports : List Port) (ps : List Processor) → AreFresh room n ports → map (λ (p : Processor). p.port) ps ≡ ports →
    (cpu : ℕ) (p : Processor) → slice_get ps cpu ≡ Some p → HaveRooms room (place p.port).outs
rooms_of room n ports ps f are cpu p at =
    f.rooms cpu p.port (ap (λ (ls : List Port). slice_get ls cpu) (sym are) ∙ slice_get-map (λ (q : Processor). q.port) ps cpu
    ∙ ap (option_map (λ (q : Processor). q.port)) at)

none_left : {A : Type 0} (xs : List A) → length xs ≡ 0 → xs ≡ []
none_left [] none = refl
none_left (x ∷ xs) none = absurd (omega arith)

pub assembled : (room : ℕ) (m : Machine) (done rest : List Port) (ps : List Processor) → HaveProcessors room m done rest ps → length rest ≡ 0 →
    AreAssembled room m ps
assembled room m done rest ps h none =
    let whole : done ++ rest ≡ done = ap (λ (ls : List Port). done ++ ls) (none_left rest none) ∙ append-nil done in
    let fresh = subst (AreFresh room m.cpus) whole h.fresh in
    record {
      count = sym (length-map ps (λ (p : Processor). p.port)) ∙ ap length h.ports ∙ fresh.count;
      rooms = rooms_of room m.cpus done ps fresh h.ports;
      each = h.each;
      one = subst AreOneFabric (sym h.ports) fresh.one;
    }
