use Rattle.std.proofs.Common.{◌-◌, ◌/◌, ◌%◌, ◌≤◌, ap, subst, ◌∙◌}
use Rattle.l4_model.specs.Machine.{Machine}
use Rattle.l4_endings.proofs.Finding.{kept_longer, letters_known, letters_number, no_number}
use Rattle.l4_endings.proofs.states.number_of_letters.Goals as goal

pub returns-clause-longer : goal.returns-clause-longer
returns-clause-longer c = kept_longer _ _ _ c.number_of.ensures.kept

pub returns-clause-are : goal.returns-clause-are
returns-clause-are c = λ m r is.
    let same = c.requires.cpus ∙ ap (λ (n : Machine). n.cpus) is.machine in
    letters_known m r c.args.walk.now is c.args.place _ _ c.letters-2.result c.letters.result
    c.new-code.result c.put_letters.new.code c.is_empty-rests.result c.args.parts.now.parts.items
    c.number_of.new.self.parts.items
    (subst (λ n. n ≤ c.args.place) same c.requires.past)
    (ap (λ n. (c.args.place - n) % n) (c.from-count.ensures ∙ same))
    (ap (λ n. (c.args.place - n) / n) (c.from-count.ensures ∙ same))
    (c.letters-2.ensures m r is) (c.letters.ensures m r is) c.new-code.ensures
    c.in_ok-put_letters.ensures
    (no_number c.letters.result c.is_empty-rests.result c.is_empty-rests.ensures) c.none.result _
    c.number_of.ensures.kept

pub returns-clause-number : goal.returns-clause-number
returns-clause-number c = λ m r is.
    let same = c.requires.cpus ∙ ap (λ (n : Machine). n.cpus) is.machine in
    letters_number m r c.args.walk.now is c.number_of.result c.args.place _ _ c.letters-2.result
    c.new-code.result c.put_letters.new.code c.number_of.new.self.parts.items
    (subst (λ n. n ≤ c.args.place) same c.requires.past)
    (ap (λ n. (c.args.place - n) % n) (c.from-count.ensures ∙ same))
    (ap (λ n. (c.args.place - n) / n) (c.from-count.ensures ∙ same))
    (c.letters-2.ensures m r is) c.new-code.ensures c.in_ok-put_letters.ensures
    c.number_of.ensures.number
