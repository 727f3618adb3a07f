use Rattle.engine_life.proofs.MultisThrough.{members_course, offsets_course}
use Rattle.engine_life.proofs.Through.{course_follows}
use Rattle.engine_life.proofs.fits.course_follows.Goals as goal

pub returns-clause-states : goal.returns-clause-states
returns-clause-states g c start bank lists store told kept few course = course_follows g.P.PageDisk start bank told (λ d x now. g.met.P.PageDisk.only_now d x told now) lists store kept few course

pub returns-clause-offsets : goal.returns-clause-offsets
returns-clause-offsets g c start bank lists store told kept base few course = offsets_course g.P.PageDisk told (λ d x now. g.met.P.PageDisk.only_now d x told now) start lists kept base few bank store course

pub returns-clause-members : goal.returns-clause-members
returns-clause-members g c start bank lists store told kept base few course = members_course g.P.PageDisk told (λ d x now. g.met.P.PageDisk.only_now d x told now) start lists kept base few bank store course
