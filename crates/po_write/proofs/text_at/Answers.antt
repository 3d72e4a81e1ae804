use Rattle.po_write.proofs.text_at.Goals as goal

pub returns : goal.returns
returns c = rw (c.word_at.ensures.0, c.word_at-shape.ensures.0)
