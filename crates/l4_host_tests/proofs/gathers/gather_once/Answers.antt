use Rattle.std.proofs.Common.{◌≡◌, List, [], ◌∷◌, map, refl, ap₂, sym, subst}
use Rattle.std.proofs.lemmas.Result.{IfErr-weaker}
use Rattle.l4_mail.specs.Ports.{Account, Place, account, place, AreLinked}
use Rattle.l4_proc.specs.declared.processor.Processor.{Processor}
use Rattle.l4_proc.proofs.Rested.{port_of}
use Rattle.l4_machine.proofs.InOneHand.{all_same}
use Rattle.l4_host_tests.proofs.gathers.gather_once.Goals as goal

-- Ports with the same accounts stand at the same places.
places_same : (olds news : List Processor) → map (λ (p : Processor). account p.port) news ≡ map (λ (p : Processor). account p.port) olds →
    map place (map port_of news) ≡ map place (map port_of olds)
places_same [] [] same = refl
places_same [] (new ∷ news) same = absurd cc
places_same (old ∷ olds) [] same = absurd cc
places_same (old ∷ olds) (new ∷ news) same =
    let first : account new.port ≡ account old.port = cc in
    let rest : map (λ (p : Processor). account p.port) news ≡ map (λ (p : Processor). account p.port) olds = cc in
    ap₂ (λ (a : Account) (places : List Place). a.place ∷ places) first (places_same olds news rest)

pub returns : goal.returns
returns c =
    let olds = c.args.processors.items in
    IfErr-weaker c.gather.result _ _ (λ e same.
    all_same c.args.machine.now olds e.1.items same c.requires (subst AreLinked (sym (places_same olds e.1.items same.accounts)) c.requires.one)) c.gather.ensures.back
