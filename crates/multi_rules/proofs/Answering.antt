-- Of which members the verdicts are told.
use Rattle.std.proofs.Common.{◌≡◌, ℕ, ◌<◌, ◌≤◌, ◌↔◌, ◌⊎◌, inl, inr, List, [], ◌∷◌, Some, get_or, map, refl, ap, sym, subst, ◌∙◌, arith, ⊎_elim}
use Rattle.std.specs.List.{Contains, slice_get}
use Rattle.std.specs.Option.{option_map}
use Rattle.std.proofs.lemmas.List.{get_or_default}
use Rattle.std.proofs.lemmas.Option.{same_Some, slice_get-map}
use Rattle.tx_events.specs.declared.event.By.{By}
use Rattle.tx_events.specs.declared.event.Event.{Event}
use Rattle.tx_events.specs.declared.multi.Member.{Member}
use Rattle.tx_events.specs.declared.multi.MultiEvent.{MultiEvent}
use Rattle.tx_events.specs.declared.multi.MultiEvent.TheVariants as multis
use Rattle.tx_events.specs.declared.record.Counters.{Counters}
use Rattle.tx_events.specs.IdLists.{Ascending}
use Rattle.tx_events.specs.Multis.{multi_by}
use Rattle.tx_events.proofs.Membership.{Has, contains_has, has_contains}
use Rattle.tx_model.specs.declared.reply.MemberVerdict.{MemberVerdict}
use Rattle.tx_model.specs.declared.report.LifeReport.{LifeReport}
use Rattle.history_check.proofs.Searching.{find_at}
use Rattle.report_law.specs.MultiLines.{AreVerdicts, IsGenOf}
use Rattle.multi_rules.specs.declared.homes.Home.{Home}
use Rattle.multi_rules.specs.Gens.{IsOnlyGenAt, NoGen}
use Rattle.multi_rules.specs.Stored.{AreHomes, IsHome, IsMissing, IsPlaceOf}
use Rattle.multi_rules.specs.Telling.{AnyOf, AreGivenSo, AreRecordedSo, AreToldSo, IsAnswered, Telling}

-- whose the event is that stands there
pub whose : (all : List MultiEvent) (p : ℕ) (e : MultiEvent) (by : By) → slice_get all p ≡ Some e → slice_get (map multi_by all) p ≡ Some by → multi_by e ≡ by
whose all p e by at its = same_Some (multi_by e) by (sym (slice_get-map multi_by all p ∙ ap (option_map multi_by) at) ∙ its)

module _ (base : Counters) (h : List Event) (of : Telling) (told : List MemberVerdict) where
  -- ---- by the event that gave it

  same_place : (all : List MultiEvent) (multi place pinned : ℕ) → IsOnlyGenAt all multi place → (s : AreGivenSo base h of told all pinned multi) → s.0 ≡ place
  same_place all multi place pinned only s = only.1 s.0 (s.3.by, s.3.offset, s.1, s.3.stands)

  pub given_iff : (all : List MultiEvent) (multi place pinned : ℕ) (by : By) (m offset : ℕ) (members : List Member) → IsOnlyGenAt all multi place → place < pinned → slice_get all place ≡ Some (multis.Gen by m offset members)
      → AreToldSo base h of told members ↔ AreGivenSo base h of told all pinned multi
  given_iff all multi place pinned by m offset members only l at = (
    λ so.
        let e : Some (multis.Gen by m offset members) ≡ Some (multis.Gen only.0.0 multi only.0.1 only.0.2) = sym at ∙ only.0.3 in
        let same : m ≡ multi = cc in
        (place, members, l, record { by = by; offset = offset; stands = at ∙ ap (λ k. Some (multis.Gen by k offset members)) same }, so),
    λ s.
        let p = same_place all multi place pinned only s in
        let e : Some (multis.Gen s.3.by multi s.3.offset s.1) ≡ Some (multis.Gen by m offset members) = sym s.3.stands ∙ ap (slice_get all) p ∙ at in
        let same : s.1 ≡ members = cc in
        subst (AreToldSo base h of told) same s.4,
  )

  pub given_late : (all : List MultiEvent) (multi place pinned : ℕ) → IsOnlyGenAt all multi place → pinned ≤ place → AreGivenSo base h of told all pinned multi → ⊥
  given_late all multi place pinned only l s = let p = same_place all multi place pinned only s in let m = s.2 in omega arith

  pub never_given : (all : List MultiEvent) (multi pinned : ℕ) → NoGen all multi → AreGivenSo base h of told all pinned multi → ⊥
  never_given all multi pinned none s = none s.0 (s.3.by, s.3.offset, s.1, s.3.stands)

  -- ---- by its record

  -- the home of a multixact is the one at its place
  pub home_is : (lives : List LifeReport) (homes : List Home) (multi place : ℕ) (home other : Home) → Ascending (map (λ (k : Home). k.multi) homes) → IsPlaceOf homes multi place → home ≡ get_or homes place home → Contains homes other → other.multi ≡ multi → other ≡ home
  home_is lives homes multi place home other up p at k same =
      let there : get_or homes k.0 other ≡ other = k.2 in
      let mine = find_at (λ (x : Home). x.multi) homes multi place home up p in
      let its = find_at (λ (x : Home). x.multi) homes multi k.0 home up (k.1, λ d. ap (λ (x : Home). x.multi) (get_or_default homes k.0 d other k.1 ∙ there) ∙ same) in
      let one : get_or homes place home ≡ get_or homes k.0 home = cc (mine, its) in
      sym there ∙ get_or_default homes k.0 other home k.1 ∙ sym one ∙ sym at

  pub home_stands : (homes : List Home) (multi place : ℕ) (home : Home) → IsPlaceOf homes multi place → home ≡ get_or homes place home → Contains homes home × (home.multi ≡ multi)
  home_stands homes multi place home p at = ((place, p.0, sym at), ap (λ (x : Home). x.multi) at ∙ p.1 home)

  pub recorded_iff : (lives : List LifeReport) (homes : List Home) (multi place : ℕ) (home : Home) (Result : Type 0) → AreHomes lives of.recorded homes → IsPlaceOf homes multi place → home ≡ get_or homes place home
      → ((members : List Member) → IsHome lives home members → Result ↔ AreToldSo base h of told members) → Result ↔ AreRecordedSo base h of told multi
  recorded_iff lives homes multi place home Result are p at each =
      let stands = home_stands homes multi place home p at in
      let told_it = are.told home stands.0 in (
        λ r. (home.offset, told_it.0, subst (λ m. Contains of.recorded (m, home.offset, told_it.0)) stands.1 told_it.2, (each told_it.0 told_it.1).0 r),
        λ s.
            let a = are.all multi s.0 s.1 s.2 in
            let same : a.0 ≡ home = home_is lives homes multi place home a.0 are.order p at a.1 a.2 in
            (each s.1 (subst (λ (k : Home). IsHome lives k s.1) same a.4)).1 s.3,
      )

  pub never_recorded : (lives : List LifeReport) (homes : List Home) (multi : ℕ) → AreHomes lives of.recorded homes → IsMissing homes multi → AreRecordedSo base h of told multi → ⊥
  never_recorded lives homes multi are none s =
      let a = are.all multi s.0 s.1 s.2 in
      none a.1.0 a.1.1 a.0 (ap (λ (k : Home). k.multi) a.1.2 ∙ a.2)

  -- ---- at the command's pins

  pub pinned_iff : (all : List MultiEvent) (place multi : ℕ) (by : By) → slice_get all place ≡ Some (multis.Hold by multi) → by ≡ of.by
      → (AreGivenSo base h of told all place multi ⊎ AreRecordedSo base h of told multi) ↔ IsAnswered base h of told all place
  pinned_iff all place multi by at its = (
    λ so. record { multi = multi; pin = at ∙ ap (λ b. Some (multis.Hold b multi)) its; so = so },
    λ a.
        let e : Some (multis.Hold of.by a.multi) ≡ Some (multis.Hold by multi) = sym a.pin ∙ at in
        let same : a.multi ≡ multi = cc in
        subst (λ m. AreGivenSo base h of told all place m ⊎ AreRecordedSo base h of told m) same a.so,
  )

  any_has : (P : ℕ → Type 0) (places : List ℕ) → AnyOf P places → (p : ℕ) × Contains places p × P p
  any_has P [] a = absurd a
  any_has P (q ∷ places) a = ⊎_elim
      (λ (u : P q). (q, (0, omega arith, refl), u))
      (λ (u : AnyOf P places). let r = any_has P places u in (r.0, has_contains (q ∷ places) r.0 (inr (contains_has places r.0 r.1)), r.2))
      a

  has_any : (P : ℕ → Type 0) (places : List ℕ) (p : ℕ) → Contains places p → P p → AnyOf P places
  has_any P places p k u = by_has places (contains_has places p k)
    where
      by_has : (places : List ℕ) → Has places p → AnyOf P places
      by_has [] z = absurd z
      by_has (q ∷ places) z = ⊎_elim (λ (e : q ≡ p). inl (subst P (sym e) u)) (λ z. inr (by_has places z)) z

  by_at : (all : List MultiEvent) (e : MultiEvent) (p : ℕ) → slice_get all p ≡ Some e → slice_get (map multi_by all) p ≡ Some (multi_by e)
  by_at all e p at = slice_get-map multi_by all p ∙ ap (option_map multi_by) at

  pub verdicts_iff : (all : List MultiEvent) (pins : List ℕ) → ((p : ℕ) → (slice_get (map multi_by all) p ≡ Some of.by) ↔ Contains pins p)
      → AnyOf (IsAnswered base h of told all) pins ↔ AreVerdicts base of.ids of.recorded h all of.round of.by of.number told
  verdicts_iff all pins own = (
    λ a.
        let r = any_has (IsAnswered base h of told all) pins a in
        let w = r.2 in
        ⊎_elim
        (λ (s : AreGivenSo base h of told all r.0 w.multi). record {
          taken = s.4.0;
          snapshot = s.4.1;
          multi = w.multi;
          pinned = r.0;
          pin = w.pin;
          members = s.1;
          has = inl (s.0, s.2, s.3);
          each = s.4.2;
        })
        (λ (s : AreRecordedSo base h of told w.multi). record {
          taken = s.3.0;
          snapshot = s.3.1;
          multi = w.multi;
          pinned = r.0;
          pin = w.pin;
          members = s.1;
          has = inr (s.0, s.2);
          each = s.3.2;
        })
        w.so,
    λ v.
        let mine = (own v.pinned).0 (by_at all (multis.Hold of.by v.multi) v.pinned v.pin) in
        has_any (IsAnswered base h of told all) pins v.pinned mine (record {
          multi = v.multi;
          pin = v.pin;
          so = ⊎_elim
              (λ (u : (place : ℕ) × (place < v.pinned) × IsGenOf all v.multi v.members place). inl (u.0, v.members, u.1, u.2, (v.taken, v.snapshot, v.each)))
              (λ (u : (offset : ℕ) × Contains of.recorded (v.multi, offset, v.members)). inr (u.0, v.members, u.1, (v.taken, v.snapshot, v.each)))
              v.has;
        }),
  )
