use Rattle.std.proofs.Common.{◌-◌, ◌<◌, arith, length}
use Rattle.turn_links.proofs.Linking.{covers_both, near_covers}
use Rattle.turn_links.proofs.making.far_of.Goals as goal

pub returns-then-are_even-clause-covered : goal.returns-then-are_even-clause-covered
returns-then-are_even-clause-covered g c = λ k o p some l m e f.
    let near = c.args.near in
    let first = c.far_at-first.result in
    let second = c.far_at-second.result in
    let a = c.far_at-first.ensures.within in
    let b = c.far_at-second.ensures.within in
    let low : c.args.place < length g.own = c.requires.1.1.0 in
    let up = c.requires.1.1.1.within in
    let from_first = covers_both g.own second first (near - 1) (omega arith) (omega arith) (omega arith) (omega arith) (c.far_at-second.ensures.covered (omega arith)) (c.far_at-first.ensures.covered (omega arith)) in
    covers_both g.own second near c.args.place low (omega arith) up (omega arith) from_first (near_covers g.own c.args.place near low c.requires.1.1.1) k o p some l m e f

pub returns-clause-covered : goal.returns-clause-covered
returns-clause-covered g c = near_covers g.own c.args.place c.args.near c.requires.1.1.0 c.requires.1.1.1
