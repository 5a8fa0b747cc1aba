-- One more letter is posted.
use Rattle.std.proofs.Common.{◌≡◌, ℕ, List, ◌∷◌, get_or, set, ap, sym, ◌∙◌, subst, arith}
use Rattle.l4_model.specs.World.{changed}
use Rattle.l4_model.proofs.Chains.{set_changed}
use Rattle.l4_core_model.specs.Letters.{Letter}
use Rattle.l4_replay.specs.Stations.{Station, with_letter}
use Rattle.l4_replay.specs.UnderWay.{with_letters, CanPost}
use Rattle.l4_replay.proofs.Systems.{can_post_more}

pub record IsPosted (from : ℕ) (ps rest : List (ℕ × Letter)) (ss news : List Station) : Type 0 where
  pub come : with_letters from ps ss ≡ with_letters from rest news
  pub can : CanPost from rest news

pub post_more : (from to i : ℕ) (letter : Letter) (ps rest : List (ℕ × Letter)) (ss : List Station) (old new : Station) → i ≡ to → ps ≡ (to, letter) ∷ rest → CanPost from ps ss → old ≡ get_or ss i old →
    new ≡ with_letter from letter old → IsPosted from ps rest ss (set ss i new)
post_more from to i letter ps rest ss old new same is can at put =
    let can = subst (λ ps. CanPost from ps ss) is can in
    let within = can.0.0.0 in
    let written : set ss i new ≡ changed (with_letter from letter) ss to =
    set_changed (with_letter from letter) ss i old new (omega arith) (put ∙ ap (with_letter from letter) at) ∙ ap (changed (with_letter from letter) ss) same in
    record {
      come = ap (λ ps. with_letters from ps ss) is ∙ ap (with_letters from rest) (sym written);
      can = subst (CanPost from rest) (sym written) (can_post_more from (to, letter) rest ss can);
    }
