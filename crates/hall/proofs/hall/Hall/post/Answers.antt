use Rattle.std.proofs.Common.{arith, ap, ◌∙◌, ◌+◌}
use Rattle.hall.proofs.Moves.{checks_one}
use Rattle.hall.proofs.Posting.{posts_here, post_tells}
use Rattle.hall.proofs.Fitting.{sees_places, fits_published}
use Rattle.hall.proofs.Owning.{is_of}
use Rattle.hall.proofs.hall.Hall.post.Goals as goal

pub load-before-requires : goal.load-before-requires
load-before-requires g c =
    let own = c.requires.own.table in let sized = c.args.self.now.sized in let words = sized.1 in let deep = sized.0 in let places = c.args.self.now.places in let inside = c.requires.word in
    (own, omega arith, checks_one _ _ _ _ _ _ _ _ _ _ _ c.args.word _ (omega arith) (omega arith))

pub compare_exchange_with-requires : goal.compare_exchange_with-requires
compare_exchange_with-requires g c =
    let r = c.requires in let own = r.own.table in let sized = c.args.self.now.sized in let words = sized.1 in let deep = sized.0 in let places = c.args.self.now.places in let inside = r.word in let e = c.load-before.ensures in (
      e.0 ∙ own,
      omega arith,
      posts_here _ _ _ _ _ _ _ _ _ _ _ c.args.word (c.args.self.now.cells + c.args.word) _ _ c.args.pass.now.seat.me _ _ c.args.entry e.2.0 (omega arith) (omega arith) (sees_places _ _ _ _ _ c.args.pass.now.fits _ _ _ (ap (λ z. z.words) c.requires.own.table ∙ c.args.self.now.sized.1) c.args.self.now.places) (omega arith) c.new-said.ensures.1 c.args.pass.now.fits.named r.session r.writes (e.2.1 _ _ (c.line_at-at.ensures) r.own.start) r.number
          (λ ls k n own lt whole. g.L.Law.keeps _ ls _ _ c.args.entry.value k n own lt whole r.may),
    )

pub invariant_of-pass : goal.invariant_of-pass
invariant_of-pass g c =
    let e = c.load-before.ensures in let x = c.compare_exchange_with.ensures in
    let told = post_tells _ _ c.args.pass.now.seat.me _ _ _ c.args.entry e.2.0 c.line_at-at.ensures c.new-said.ensures.1 x.2 in
    record { fits = fits_published _ _ _ _ _ c.args.pass.now.fits _ _ _ _ _ (ap (λ z. z.slots) (x.0 ∙ e.0)) (ap (λ z. z.words) (x.0 ∙ e.0)) told }

pub returns-clause-own : goal.returns-clause-own
returns-clause-own g c =
    let own = c.requires.own in let e = c.load-before.ensures in let x = c.compare_exchange_with.ensures in
    let told = post_tells _ _ c.args.pass.now.seat.me _ _ _ c.args.entry e.2.0 c.line_at-at.ensures c.new-said.ensures.1 x.2 in
    (is_of _ _ (x.0 ∙ (e.0 ∙ own.table)) (ap (λ z. z.0.start) told ∙ own.start), (x.0 ∙ e.0, x.1 ∙ e.1))

pub returns-clause-view : goal.returns-clause-view
returns-clause-view g c =
    let e = c.load-before.ensures in let x = c.compare_exchange_with.ensures in
    ap (λ z. z.0) (post_tells _ _ c.args.pass.now.seat.me _ _ _ c.args.entry e.2.0 c.line_at-at.ensures c.new-said.ensures.1 x.2)
