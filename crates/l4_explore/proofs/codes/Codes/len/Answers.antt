use Rattle.std.proofs.Common.{◌∙◌, sym}
use Rattle.l4_explore.proofs.Ends.{length-codes_of}
use Rattle.l4_explore.proofs.codes.Codes.len.Goals as goal

pub returns : goal.returns
returns c = rw (← c.self.view_is)
    (c.len.ensures ∙ c.self.inside.ends.ok.0
    ∙ sym (length-codes_of c.self.inside.bytes.items c.self.inside.ends.items))
