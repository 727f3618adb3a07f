use Rattle.engine_life.proofs.Sections.{members_moments, offsets_moments, states_moments}
use Rattle.engine_life.proofs.fits.moments_follow.Goals as goal

pub returns-clause-states : goal.returns-clause-states
returns-clause-states g c = states_moments g.P.PageDisk.images g.P.PageDisk.moment g.P.PageDisk.left_at

pub returns-clause-offsets : goal.returns-clause-offsets
returns-clause-offsets g c = offsets_moments g.P.PageDisk.images g.P.PageDisk.moment g.P.PageDisk.left_at

pub returns-clause-members : goal.returns-clause-members
returns-clause-members g c = members_moments g.P.PageDisk.images g.P.PageDisk.moment g.P.PageDisk.left_at
