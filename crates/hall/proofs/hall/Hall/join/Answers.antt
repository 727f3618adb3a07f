use Rattle.std.proofs.Common.{arith, sym, ap, ◌∙◌}
use Rattle.hall.specs.Told.{joined}
use Rattle.hall.proofs.Joins.{joins_in}
use Rattle.hall.proofs.Moves.{settles_one}
use Rattle.hall.proofs.Fitting.{sees_places}
use Rattle.hall.proofs.Parting.{free_empty, fits_joined, fits_settled, join_tells, joined_wide}
use Rattle.hall.proofs.Owning.{is_of}
use Rattle.hall.proofs.hall.Hall.join.Goals as goal

pub join_seat-requires : goal.join_seat-requires
join_seat-requires g c = (
  c.requires.own.table,
  c.requires.other.table,
  free_empty _ _ _ _ _ c.args.other.fits c.requires.other_free,
  (let s = c.args.self.now.sized.1 in omega arith),
  joins_in _ _ _ _ _ _ _ _ _ _ _ _ c.requires.other_free,
)

pub load-requires : goal.load-requires
load-requires g c =
    let j = c.join_seat.ensures in let mine = c.args.pass.now.fits.wide in let theirs = c.args.other.fits.wide in let t = c.requires.other.table ∙ sym c.requires.own.table in let slots = ap (λ z. z.slots) t in let words = ap (λ z. z.words) t in
    (j.0 ∙ c.requires.own.table, (let s = c.args.self.now.sized.1 in omega arith), settles_one _ _ _ _ _ _ _ _ _ _ _ _ (joined_wide c.args.pass.now.seat.me.0 c.args.other.seat.me.0 _ (omega arith) (ap (λ z. z.0) j.2) ∙ sees_places _ _ _ _ _ c.args.pass.now.fits _ _ _ (ap (λ z. z.words) c.requires.own.table ∙ c.args.self.now.sized.1) c.args.self.now.places))

pub invariant_of-pass : goal.invariant_of-pass
invariant_of-pass g c =
    let j = c.join_seat.ensures in let l = c.load.ensures in let mine = c.args.pass.now.fits.wide in let theirs = c.args.other.fits.wide in let t = c.requires.other.table ∙ sym c.requires.own.table in let slots = ap (λ z. z.slots) t in let words = ap (λ z. z.words) t in
    let f = fits_joined _ _ _ _ _ c.args.pass.now.fits _ _ c.args.other.seat.me.0 _ c.args.other.names c.take_in.new.self (ap (λ z. z.slots) j.0) (ap (λ z. z.words) j.0) (omega arith) j.2 c.args.other.fits.held c.take_in.ensures.own c.take_in.ensures.held in
    let k = l.2 _ _ (ap (λ z. z.0.start) j.2 ∙ c.requires.own.start) (ap (λ z. z.0.merged) j.2) in
    record { fits = fits_settled _ _ _ _ _ f _ _ k.lists _ (ap (λ z. z.slots) l.0) (ap (λ z. z.words) l.0) k.moment.long k.view_is k.slots_are }

pub returns-clause-own : goal.returns-clause-own
returns-clause-own g c =
    let own = c.requires.own in let j = c.join_seat.ensures in let l = c.load.ensures in
    let k = l.2 _ _ (ap (λ z. z.0.start) j.2 ∙ own.start) (ap (λ z. z.0.merged) j.2) in
    (is_of _ _ (l.0 ∙ (j.0 ∙ own.table)) (ap (λ z. z.start) k.view_is ∙ (ap (λ z. z.0.start) j.2 ∙ own.start)), (l.0 ∙ j.0, l.1 ∙ j.1))

pub returns-clause-view : goal.returns-clause-view
returns-clause-view g c =
    let j = c.join_seat.ensures in let l = c.load.ensures in let mine = c.args.pass.now.fits.wide in let theirs = c.args.other.fits.wide in let t = c.requires.other.table ∙ sym c.requires.own.table in let slots = ap (λ z. z.slots) t in let words = ap (λ z. z.words) t in
    join_tells _ _ _ _ c.args.pass.now.seat.me.0 c.args.other.seat.me.0 _ _ (omega arith) c.requires.free c.requires.other_free (j.2 ∙ sym (ap (λ z. (joined c.args.pass.now.seat.me.0 c.args.other.seat.me.0, z.1)) j.2)) l.2 c.requires.own.start
