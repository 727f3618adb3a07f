-- What the lives before have left, as the lines of commands ask it.
use Rattle.std.proofs.Common.{◌≡◌, ℕ, ◌<◌, List, [], ◌∷◌, Contains, get_or, length, map, refl, sym, ap, subst, ◌∙◌}
use Rattle.std.proofs.lemmas.List.{get_or_default}
use Rattle.tx_events.specs.IdLists.{Ascending}
use Rattle.tx_events.specs.declared.multi.Member.{Member}
use Rattle.tx_events.proofs.Membership.{contains_has, has_contains, has_map}
use Rattle.tx_model.specs.declared.report.LifeReport.{LifeReport}
use Rattle.multi_rules.specs.Gens.{AreStartsOf}
use Rattle.history_places.specs.declared.start.Start.{Start}
use Rattle.history_places.specs.Starts.{start_of}
use Rattle.multi_rules.specs.declared.homes.Home.{Home}
use Rattle.multi_rules.specs.Stored.{IsHome}
use Rattle.report_law.specs.Begun.{Begun}
use Rattle.reply_lines.specs.Known.{IsKept}
use Rattle.reply_lines.specs.declared.known.Kept.{Kept}
use Rattle.report_check.specs.Keeping.{AreStarts, IsLeft, start_at}

starts_are : (b : Begun) (starts : List Start) → AreStarts b starts → AreStartsOf b.recorded starts
starts_are b starts s = record {
  order = s.fits.order;
  each = λ multi. (
    λ r.
        let k = r.0 in
        let l : k < length starts = r.1.0 in
        let x = get_or starts k (start_of multi 0) in
        let at : x.multi ≡ multi = r.1.1 (start_of multi 0) in
        let it = start_of multi x.offset in
        let there : get_or starts k it ≡ it = get_or_default starts k it (start_of multi 0) l ∙ ap (λ m. start_of m x.offset) at in
        let c = (s.are multi x.offset).0 (k, l, there) in
        (x.offset, c.0, c.1),
    λ z.
        let c = (s.are multi z.0).1 (z.1, z.2) in
        let it = start_of multi z.0 in
        (c.0, (c.1, λ d. ap (λ (x : Start). x.multi) (get_or_default starts c.0 d it c.1 ∙ c.2))),
  );
}

multis_are : (homes : List Home) → map (λ (h : Home). h.multi) homes ≡ map (λ (s : Start). s.multi) (map start_at homes)
multis_are [] = refl
multis_are (h ∷ homes) = ap (λ (ms : List ℕ). h.multi ∷ ms) (multis_are homes)

pub kept_is : (b : Begun) (lives : List LifeReport) (k : Kept) → IsLeft b lives k → IsKept b lives k
kept_is b lives k left = record {
  committed = left.committed;
  starts = starts_are b k.starts.items left.starts;
  homes = record {
    order = subst Ascending (sym (multis_are k.homes.items ∙ ap (λ (ss : List Start). map (λ (s : Start). s.multi) ss) left.same)) left.starts.fits.order;
    told = λ home c. let i = left.homes home c in (i.members, i.given, i.recorded);
    all = λ multi offset members c.
        let s = (left.starts.are multi offset).1 (members, c) in
        let m = subst (λ (ss : List Start). Contains ss (start_of multi offset)) (sym left.same) s in
        let h = has_map start_at k.homes.items (start_of multi offset) (contains_has (map start_at k.homes.items) (start_of multi offset) m) in
        let home = h.0 in
        let at = has_contains k.homes.items home h.1 in
        let number : home.multi ≡ multi = ap (λ (x : Start). x.multi) h.2 in
        let place : home.offset ≡ offset = ap (λ (x : Start). x.offset) h.2 in
        let i = left.homes home at in
        let recorded : Contains b.recorded (multi, home.offset, i.members) = subst (λ n. Contains b.recorded (n, home.offset, i.members)) number i.recorded in
        let same : i.members ≡ members = left.starts.once multi home.offset offset i.members members recorded c in
        (home, at, number, place, subst (λ (ms : List Member). IsHome lives home ms) same i.given);
  };
}
