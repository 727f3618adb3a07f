use Rattle.bank_follows.proofs.Flushed.{members_flushed, offsets_flushed, states_flushed}
use Rattle.bank_follows.proofs.laws.flushes_follow.Goals as goal

pub returns-clause-states : goal.returns-clause-states
returns-clause-states g c start bank lists found left told kept few course crash = states_flushed g.P.PageDisk told (λ d x now. g.met.P.PageDisk.only_now d x told now) start lists kept bank found left crash few course

pub returns-clause-offsets : goal.returns-clause-offsets
returns-clause-offsets g c start bank lists found left told kept base few course crash = offsets_flushed g.P.PageDisk told (λ d x now. g.met.P.PageDisk.only_now d x told now) start lists kept bank found left crash base few course

pub returns-clause-members : goal.returns-clause-members
returns-clause-members g c start bank lists found left told kept base few course crash = members_flushed g.P.PageDisk told (λ d x now. g.met.P.PageDisk.only_now d x told now) start lists kept bank found left crash base few course
