use Rattle.std.{proofs.Common.refl, specs.Fmt.digits}
use Rattle.snap_order.proofs.complaint.line_of.Goals as goal

pub returns-in-Malformed : goal.returns-in-Malformed
unfolding digits
returns-in-Malformed c = rw c.in-Malformed.is refl

pub returns-in-NoSegment : goal.returns-in-NoSegment
unfolding digits
returns-in-NoSegment c = rw c.in-NoSegment.is refl

pub returns-in-TooLong : goal.returns-in-TooLong
unfolding digits
returns-in-TooLong c = rw c.in-TooLong.is refl

pub returns-in-Conflict : goal.returns-in-Conflict
unfolding digits
returns-in-Conflict c = rw c.in-Conflict.is refl

pub returns-in-OutOfStep : goal.returns-in-OutOfStep
unfolding digits
returns-in-OutOfStep c = rw c.in-OutOfStep.is refl

pub returns-in-Fenced : goal.returns-in-Fenced
unfolding digits
returns-in-Fenced c = rw c.in-Fenced.is refl

pub returns-in-Full : goal.returns-in-Full
unfolding digits
returns-in-Full c = rw c.in-Full.is refl

pub returns-in-NoMemory : goal.returns-in-NoMemory
unfolding digits
returns-in-NoMemory c = rw c.in-NoMemory.is refl

pub returns-in-Exhausted : goal.returns-in-Exhausted
unfolding digits
returns-in-Exhausted c = rw c.in-Exhausted.is refl

pub returns-in-Damaged : goal.returns-in-Damaged
unfolding digits
returns-in-Damaged c = rw c.in-Damaged.is refl

pub returns-in-Unformatted : goal.returns-in-Unformatted
unfolding digits
returns-in-Unformatted c = rw c.in-Unformatted.is refl

pub returns-in-AlreadyFormatted : goal.returns-in-AlreadyFormatted
unfolding digits
returns-in-AlreadyFormatted c = rw c.in-AlreadyFormatted.is refl

pub returns-in-DeviceFailed : goal.returns-in-DeviceFailed
unfolding digits
returns-in-DeviceFailed c = rw c.in-DeviceFailed.is refl

pub returns-in-WrongFile : goal.returns-in-WrongFile
unfolding digits
returns-in-WrongFile c = rw c.in-WrongFile.is refl

pub returns-in-TooLarge : goal.returns-in-TooLarge
unfolding digits
returns-in-TooLarge c = rw c.in-TooLarge.is refl

pub returns-in-NotNow : goal.returns-in-NotNow
unfolding digits
returns-in-NotNow c = rw c.in-NotNow.is refl

pub returns-in-Worn : goal.returns-in-Worn
unfolding digits
returns-in-Worn c = rw c.in-Worn.is refl
