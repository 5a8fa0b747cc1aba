use Rattle.std.proofs.Common.{◌∙◌}
use Rattle.l4_proc.proofs.Readying.{letters_closed, letters_then, posted_on, whole_kept}
use Rattle.l4_proc.proofs.processor.Processor.post_all.Goals as goal

pub invariant_of-self : goal.invariant_of-self
invariant_of-self c =
    let same = c.take_letter.ensures.same in
    let has = c.post.ensures.posted in
    record { whole = whole_kept c.letters.self.port _ c.letters.self.worker _ has.place has.taken same.cpu (letters_closed _ _ same) c.letters.self.whole }

pub letters-preserved : goal.letters-preserved
letters-preserved c =
    let i = c.letters.invariant in
    let has = c.post.ensures.posted in
    let on = posted_on c.letters.self.port c.post.new.self c.in-Some.to c.in-Some.letter _ _ has c.in-Some.ensures.letters i.ways i.room in
    record {
      core = i.core;
      hand = i.hand;
      log = letters_then _ _ _ i.log c.take_letter.ensures.same;
      place = has.place ∙ i.place;
      posted = λ to. on.posted to ∙ i.posted to;
      taken = λ from. has.taken from ∙ i.taken from;
      kept = λ from. has.kept from ∙ i.kept from;
      ways = on.ways;
      room = on.room;
    }
