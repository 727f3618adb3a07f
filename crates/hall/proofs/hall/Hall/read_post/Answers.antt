use Rattle.std.proofs.Common.{arith, ap, ◌∙◌}
use Rattle.hall.proofs.Moves.{learns}
use Rattle.hall.proofs.Fitting.{sees_places, fits_learned, read_tells}
use Rattle.hall.proofs.Owning.{is_of}
use Rattle.hall.proofs.hall.Hall.read_post.Goals as goal

pub load-requires : goal.load-requires
load-requires g c =
    let own = c.requires.own.table in let sized = c.args.self.now.sized in let words = sized.1 in let deep = sized.0 in let places = c.args.self.now.places in let inside = c.requires.word in (
      own,
      omega arith,
      learns _ _ _ _ _ _ _ _ _ _ _ c.args.word _ (sees_places _ _ _ _ _ c.args.pass.now.fits _ _ _ (ap (λ z. z.words) c.requires.own.table ∙ c.args.self.now.sized.1) c.args.self.now.places) (omega arith) (omega arith),
    )

pub invariant_of-pass : goal.invariant_of-pass
invariant_of-pass g c =
    let e = c.load.ensures in let t = e.2 _ _ c.line_at-at.ensures c.requires.own.start in
    record { fits = fits_learned _ _ _ _ _ c.args.pass.now.fits _ _ t.lists _ (ap (λ z. z.slots) e.0) (ap (λ z. z.words) e.0) t.moment.long t.view_is t.slots_are }

pub returns-clause-own : goal.returns-clause-own
returns-clause-own g c =
    let e = c.load.ensures in let t = e.2 _ _ c.line_at-at.ensures c.requires.own.start in
    (is_of _ _ (e.0 ∙ c.requires.own.table) (ap (λ z. z.start) t.view_is ∙ c.requires.own.start), (e.0, e.1))

pub returns-clause-view : goal.returns-clause-view
returns-clause-view g c =
    read_tells _ _ _ _ _ _ _ _ _ (c.load.ensures.2 _ _ c.line_at-at.ensures c.requires.own.start)
