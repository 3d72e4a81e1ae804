-- The words of each reason, or its number.
use Rattle.hbc.proofs.NumberLaws.{roomed_codes, reason_refused}
use Rattle.hbc.proofs.put_reason.Goals as goal

pub returns-in-Refused : goal.returns-in-Refused
returns-in-Refused c = rw c.in-Refused.is (reason_refused _ _ _ _ c.wide.ensures.0)

pub returns-in-InPlace : goal.returns-in-InPlace
returns-in-InPlace c = rw c.in-InPlace.is (roomed_codes _ _ _ _ _ _ c.put_words.ensures c.number.ensures)

pub returns-in-Wide : goal.returns-in-Wide
returns-in-Wide c = rw c.in-Wide.is (roomed_codes _ _ _ _ _ _ c.put_words-in-Wide.ensures c.number-in-Wide.ensures)

pub returns-in-NotAscii : goal.returns-in-NotAscii
returns-in-NotAscii c = rw c.in-NotAscii.is (roomed_codes _ _ _ _ _ _ c.put_words-in-NotAscii.ensures c.number-in-NotAscii.ensures)

pub returns-in-Lengths : goal.returns-in-Lengths
returns-in-Lengths c = rw c.in-Lengths.is (roomed_codes _ _ _ _ _ _ c.put_words-in-Lengths.ensures c.number-in-Lengths.ensures)

pub returns-in-Overlap : goal.returns-in-Overlap
returns-in-Overlap c = rw c.in-Overlap.is (roomed_codes _ _ _ _ _ _ c.put_words-in-Overlap.ensures c.number-in-Overlap.ensures)
