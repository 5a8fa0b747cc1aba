use Rattle.std.proofs.Common.{◌≡◌, ℕ, Bool, true, List, map, sym, ap, ◌∙◌, subst, Vec, Global}
use Rattle.std.specs.Prelude.{is_some}
use Rattle.std.specs.List.{list_all, list_any, AllZip}
use Rattle.std.proofs.lemmas.List.{with_items_is}
use Rattle.l4_core_model.specs.Runs.{is_empty}
use Rattle.l4_core_model.specs.Letters.{Letter}
use Rattle.l4_mail.specs.Ports.{account}
use Rattle.l4_mail.specs.Rests.{are_all, under_way}
use Rattle.l4_mail.proofs.Whole.{same_length}
use Rattle.l4_mail.specs.declared.ports.Port.{Port}
use Rattle.l4_proc.specs.Whole.{IsWhole}
use Rattle.l4_proc.specs.declared.processor.Processor.{Processor}
use Rattle.l4_proc.proofs.Rested.{again, all_again, all_whole_again, found, nothing_listed, one_again, port_of, worker_of}
use Rattle.l4_proc.proofs.UnderWay.{is_nothing}
use Rattle.l4_proc.proofs.resting.rest_several.Goals as goal

pub join-requires-clause-whole : goal.join-requires-clause-whole
join-requires-clause-whole c =
    let same = c.rest-rested.ensures.same in
    let len = same_length account c.rest-rested.new.ports c.as_mut_slice.result.now same ∙ c.as_mut_slice.ensures.len in
    let whole = all_whole_again c.as_mut_slice.result.now c.rest-rested.new.ports c.part.new.workers.items same
    (subst (λ (ps : List Port). AllZip IsWhole ps c.part.new.workers.items) (sym c.as_mut_slice.ensures.value) c.part.ensures.whole) in
    subst (λ (ps : List Port). AllZip IsWhole ps c.part.new.workers.items) (sym (with_items_is c.part.new.ports c.rest-rested.new.ports len)) whole

pub returns-in_err-rested-clause-same : goal.returns-in_err-rested-clause-same
returns-in_err-rested-clause-same c =
    let same = c.rest-rested.ensures.same in
    let len = same_length account c.rest-rested.new.ports c.as_mut_slice.result.now same ∙ c.as_mut_slice.ensures.len in
    again c.args.processors.now.items c.join.new.processors.items c.part.new.ports.items c.as_mut_slice.result.now c.rest-rested.new.ports _ c.part.new.workers.items
    (c.part.ensures.ports ∙ ap (λ (v : Vec Processor Global). map port_of v.items) c.replace.ensures.value) c.as_mut_slice.ensures.value same
    (with_items_is c.part.new.ports c.rest-rested.new.ports len) c.join.ensures.ports
    (c.part.ensures.workers ∙ ap (λ (v : Vec Processor Global). map worker_of v.items) c.replace.ensures.value) c.join.ensures.workers

pub returns-in_err-rested-clause-one : goal.returns-in_err-rested-clause-one
returns-in_err-rested-clause-one c =
    let same = c.rest-rested.ensures.same in
    let len = same_length account c.rest-rested.new.ports c.as_mut_slice.result.now same ∙ c.as_mut_slice.ensures.len in
    one_again c.args.processors.now.items c.join.new.processors.items
    (again c.args.processors.now.items c.join.new.processors.items c.part.new.ports.items c.as_mut_slice.result.now c.rest-rested.new.ports _ c.part.new.workers.items
    (c.part.ensures.ports ∙ ap (λ (v : Vec Processor Global). map port_of v.items) c.replace.ensures.value) c.as_mut_slice.ensures.value same
    (with_items_is c.part.new.ports c.rest-rested.new.ports len) c.join.ensures.ports
    (c.part.ensures.workers ∙ ap (λ (v : Vec Processor Global). map worker_of v.items) c.replace.ensures.value) c.join.ensures.workers)
    c.requires.one

pub returns-clause-same : goal.returns-clause-same
returns-clause-same c =
    let same = c.rest-rested.ensures.same in
    let len = same_length account c.rest-rested.new.ports c.as_mut_slice.result.now same ∙ c.as_mut_slice.ensures.len in
    again c.args.processors.now.items c.join.new.processors.items c.part.new.ports.items c.as_mut_slice.result.now c.rest-rested.new.ports _ c.part.new.workers.items
    (c.part.ensures.ports ∙ ap (λ (v : Vec Processor Global). map port_of v.items) c.replace.ensures.value) c.as_mut_slice.ensures.value same
    (with_items_is c.part.new.ports c.rest-rested.new.ports len) c.join.ensures.ports
    (c.part.ensures.workers ∙ ap (λ (v : Vec Processor Global). map worker_of v.items) c.replace.ensures.value) c.join.ensures.workers

pub returns-clause-one : goal.returns-clause-one
returns-clause-one c =
    let same = c.rest-rested.ensures.same in
    let len = same_length account c.rest-rested.new.ports c.as_mut_slice.result.now same ∙ c.as_mut_slice.ensures.len in
    one_again c.args.processors.now.items c.join.new.processors.items
    (again c.args.processors.now.items c.join.new.processors.items c.part.new.ports.items c.as_mut_slice.result.now c.rest-rested.new.ports _ c.part.new.workers.items
    (c.part.ensures.ports ∙ ap (λ (v : Vec Processor Global). map port_of v.items) c.replace.ensures.value) c.as_mut_slice.ensures.value same
    (with_items_is c.part.new.ports c.rest-rested.new.ports len) c.join.ensures.ports
    (c.part.ensures.workers ∙ ap (λ (v : Vec Processor Global). map worker_of v.items) c.replace.ensures.value) c.join.ensures.workers)
    c.requires.one

pub returns-clause-all : goal.returns-clause-all
returns-clause-all c =
    let same = c.rest-rested.ensures.same in
    let len = same_length account c.rest-rested.new.ports c.as_mut_slice.result.now same ∙ c.as_mut_slice.ensures.len in
    let before =
    again c.args.processors.now.items c.join.new.processors.items c.part.new.ports.items c.as_mut_slice.result.now c.rest-rested.new.ports _ c.part.new.workers.items
    (c.part.ensures.ports ∙ ap (λ (v : Vec Processor Global). map port_of v.items) c.replace.ensures.value) c.as_mut_slice.ensures.value same
    (with_items_is c.part.new.ports c.rest-rested.new.ports len) c.join.ensures.ports
    (c.part.ensures.workers ∙ ap (λ (v : Vec Processor Global). map worker_of v.items) c.replace.ensures.value) c.join.ensures.workers in
    let olds = c.args.processors.now.items in
    let news = c.join.new.processors.items in
    let ports : map port_of news ≡ c.rest-rested.new.ports = c.join.ensures.ports ∙ with_items_is c.part.new.ports c.rest-rested.new.ports len in
    let all : are_all (map port_of olds) ≡ true = c.requires.all in
    let one = one_again olds news before c.requires.one in
    let holds : Processor → Bool = λ p. is_some p.worker.hand in
    let empty : (ℕ × ℕ × Vec Letter Global) → Bool = λ way. is_empty way.2.items in
    let listed : list_all empty c.deref.result.now ≡ list_all is_nothing (under_way (map port_of news)) =
    ap (list_all empty) c.deref.ensures.value ∙ nothing_listed c.in_ok-rested.field-0.items c.rest-rested.new.ports c.in_ok-rested.ensures.list
    ∙ ap (λ (ps : List Port). list_all is_nothing (under_way ps)) (sym ports) in
    let r = found news (list_all empty c.deref.result.now) (list_any holds c.deref-2.result.now) one (all_again olds news before all) listed
    (ap (list_any holds) c.deref-2.ensures.value) in
    (λ is. r.0 (sym c.all_is_handled.ensures ∙ is), λ h. c.all_is_handled.ensures ∙ r.1 h)
