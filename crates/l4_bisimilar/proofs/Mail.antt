-- What letters under way tell, and what a processor posts, as a way takes them.
use Rattle.std.proofs.Common.{◌≡◌, ℕ, Bool, true, false, cond, List, [], ◌∷◌, ◌++◌, map, refl, ap, sym, ◌∙◌}
use Rattle.std.specs.Prelude.{filter}
use Rattle.std.proofs.lemmas.List.{map-append}
use Rattle.std.proofs.lemmas.Simd.{map-map}
use Rattle.l4_core_model.specs.Letters.{Content, Letter}
use Rattle.l4_core_model.specs.Runs.{Posted, is_between, letters, posted}
use Rattle.l4_merge.proofs.Mail.{letters-append}
use Rattle.l4_bisimilar.specs.Alike.{contents}
use Rattle.l4_bisimilar.proofs.Ways.{Way, bare_letter}

abbrev relettered : (Letter → Letter) → Posted → Posted
relettered g p = record p { letter = g p.letter }

-- Where each letter is taken for another
pub letters_map : (g : Letter → Letter) (from to : ℕ) (mail : List Posted) →
    letters (map (relettered g) mail) from to ≡ map g (letters mail from to)
letters_map g from to [] = refl
letters_map g from to (p ∷ ps) = put (is_between from to p) (letters_map g from to ps)
  where
    of : List Posted → List Letter
    of = map (λ q. q.letter)

    others : List Posted
    others = filter (is_between from to) (map (relettered g) ps)

    put : (b : Bool) → letters (map (relettered g) ps) from to ≡ map g (letters ps from to) →
        of (cond b (relettered g p ∷ others) others)
        ≡ map g (of (cond b (p ∷ filter (is_between from to) ps) (filter (is_between from to) ps)))
    put true rest = λ j. g p.letter ∷ rest j
    put false rest = rest

-- What letters tell, as the way takes it
abbrev pub told_in : (Content → Content) → List Letter → List Content
told_in content = map (λ letter. content letter.content)

module _ (w : Way) (cpu from to : ℕ) where
  posted_like : (xs ys : List (ℕ × Letter)) → map (bare_letter w) xs ≡ map (bare_letter w) ys →
      told_in w.content (letters (map (posted cpu) xs) from to)
      ≡ told_in w.content (letters (map (posted cpu) ys) from to)
  posted_like xs ys e =
      sym (by xs) ∙ ap (λ ps. contents (letters (map (posted cpu) ps) from to)) e ∙ by ys
    where
      bare : Letter → Letter
      bare letter = record { stamp = 0; content = w.content letter.content }

      by : (ls : List (ℕ × Letter)) →
          contents (letters (map (posted cpu) (map (bare_letter w) ls)) from to)
          ≡ told_in w.content (letters (map (posted cpu) ls) from to)
      by ls =
          ap (λ ps. contents (letters ps from to)) (map-map (posted cpu) (bare_letter w) ls
          ∙ sym (map-map (relettered bare) (posted cpu) ls))
          ∙ ap contents (letters_map bare from to (map (posted cpu) ls))
          ∙ map-map (λ letter. letter.content) bare (letters (map (posted cpu) ls) from to)

  pub done_mail : (mail other : List Posted) (xs ys : List (ℕ × Letter)) →
      told_in w.content (letters mail from to) ≡ told_in w.content (letters other from to) →
      map (bare_letter w) xs ≡ map (bare_letter w) ys →
      told_in w.content (letters (mail ++ map (posted cpu) xs) from to)
      ≡ told_in w.content (letters (other ++ map (posted cpu) ys) from to)
  done_mail mail other xs ys e f = by mail xs ∙ (λ j. e j ++ posted_like xs ys f j) ∙ sym (by other ys)
    where
      by : (mail : List Posted) (ls : List (ℕ × Letter)) →
          told_in w.content (letters (mail ++ map (posted cpu) ls) from to)
          ≡ told_in w.content (letters mail from to) ++ told_in w.content (letters (map (posted cpu) ls) from to)
      by mail ls =
          ap (told_in w.content) (letters-append from to mail (map (posted cpu) ls))
          ∙ map-append (λ (letter : Letter). w.content letter.content) (letters mail from to)
          (letters (map (posted cpu) ls) from to)
