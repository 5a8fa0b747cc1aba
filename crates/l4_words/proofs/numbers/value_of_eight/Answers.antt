use Rattle.std.proofs.Common.{get_or}
use Rattle.l4_words.proofs.Eights.{adds, eight_read}
use Rattle.l4_words.proofs.numbers.value_of_eight.Goals as goal

pub returns : goal.returns
returns c =
    let bytes = c.args.digits.now in
    eight_read bytes c.face-value.result c.face.result c.face-2.result c.face-3.result c.face-4.result c.face-5.result c.face-6.result c.face-7.result c.requires
    (adds (get_or bytes 0 0) c.face-value.result c.face-value.ensures.few c.face-value.ensures.digit) (adds (get_or bytes 1 0) c.face.result c.face.ensures.few c.face.ensures.digit)
    (adds (get_or bytes 2 0) c.face-2.result c.face-2.ensures.few c.face-2.ensures.digit) (adds (get_or bytes 3 0) c.face-3.result c.face-3.ensures.few c.face-3.ensures.digit)
    (adds (get_or bytes 4 0) c.face-4.result c.face-4.ensures.few c.face-4.ensures.digit) (adds (get_or bytes 5 0) c.face-5.result c.face-5.ensures.few c.face-5.ensures.digit)
    (adds (get_or bytes 6 0) c.face-6.result c.face-6.ensures.few c.face-6.ensures.digit) (adds (get_or bytes 7 0) c.face-7.result c.face-7.ensures.few c.face-7.ensures.digit)
