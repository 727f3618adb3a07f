-- What the marks of a life's multixacts tell of its page.
use Rattle.std.proofs.Common.{◌≡◌, ℕ, ◌+◌, ◌-◌, ◌<◌, ◌≤◌, ◌↔◌, List, length, get_or, ap, sym, subst, ◌∙◌, arith, Some, true, Contains}
use Rattle.std.specs.List.{slice_get}
use Rattle.tx_events.specs.Ids.{low_half}
use Rattle.tx_events.specs.Events.{given}
use Rattle.tx_events.specs.declared.event.By.{By}
use Rattle.tx_events.specs.declared.event.Event.{Event}
use Rattle.tx_events.specs.declared.multi.Member.{Member}
use Rattle.tx_events.specs.declared.multi.MultiEvent.{MultiEvent}
use Rattle.tx_events.specs.declared.multi.MultiEvent.TheVariants as multis
use Rattle.tx_events.specs.Multis.{multi_by}
use Rattle.tx_events.proofs.Membership.{contains_has, has_map, has_place}
use Rattle.store_pages.specs.Layouts.{word_place_of}
use Rattle.tx_events.specs.Pages.{member_page, offset_page}
use Rattle.report_law.specs.Dumps.{HasWord}
use Rattle.history_places.specs.declared.mark.IdMark.{IdMark}
use Rattle.history_places.specs.IdMarks.{AreMarks, IsMissing, mark_ids}
use Rattle.dump_rules.specs.declared.gens.GenMark.{GenMark}
use Rattle.dump_rules.specs.Gens.{AreGens, IsGenMark, mark_of}
use Rattle.dump_rules.specs.Gens as gens
use Rattle.dump_rules.specs.Shown.{Behind, GivesTo, HasMember, ShowsMember, ShowsOffset, member_in}
use Rattle.dump_rules.proofs.Marking.{MarkAt, at_index, got, index_of, same_index, within}

-- an id that was given has a mark
pub not_missing : (h : List Event) (marks : List IdMark) (x : ℕ) → AreMarks h marks → Contains (given h) x → IsMissing marks x → ⊥
not_missing h marks x are k missing =
    let m = has_map (λ (m : IdMark). m.id) marks x (contains_has (mark_ids marks) x (subst (λ (t : List ℕ). Contains t x) (sym are.ids) k)) in
    let p = has_place marks m.0 m.1 in
    missing p.0 (within marks p.0 m.0 p.1) m.0 (ap (λ (y : IdMark). y.id) (got marks p.0 m.0 m.0 p.1) ∙ m.2)

module _ (b : Behind) (marks : List GenMark) (are : AreGens b.ok b.multis marks) where
  -- the mark of a multixact that is given there
  pub mark_is : (place multi offset : ℕ) (members : List Member) (g : GivesTo b place multi offset members) → MarkAt marks (mark_of place (b.ok g.by) multi offset members)
  mark_is place multi offset members g = index_of marks (mark_of place (b.ok g.by) multi offset members) (are.all place multi offset members g.by g.stands)

  -- it is the one of this number
  pub the_mark : (place multi offset : ℕ) (members : List Member) (g : GivesTo b place multi offset members) (k : ℕ) (d : GenMark) → k < length marks → (get_or marks k d).multi ≡ multi → get_or marks k d ≡ mark_of place (b.ok g.by) multi offset members
  the_mark place multi offset members g k d l e =
      let m = mark_is place multi offset members g in
      let same = same_index marks k m.index d are.rise l m.within (e ∙ sym (ap (λ (x : GenMark). x.multi) (m.is d))) in
      ap (λ n. get_or marks n d) same ∙ m.is d

  pub none_of : (place multi offset : ℕ) (members : List Member) → GivesTo b place multi offset members → gens.IsMissing marks multi → ⊥
  none_of place multi offset members g missing =
      let m = mark_is place multi offset members g in
      let d = mark_of place (b.ok g.by) multi offset members in
      missing m.index m.within d (ap (λ (x : GenMark). x.multi) (m.is d))

  -- its event's command is the mark's
  pub gives_of : (g : GenMark) (n : ℕ) → IsGenMark b.ok b.multis g → n ≡ b.multi_place → g.ok ≡ true → g.place < n → (by : By) (members : List Member) → slice_get b.multis g.place ≡ Some (multis.Gen by g.multi g.offset members) → GivesTo b g.place g.multi g.offset members
  gives_of g n m upto t l by members stands =
      let both : Some (multis.Gen by g.multi g.offset members) ≡ Some (multis.Gen m.by g.multi g.offset m.members) = sym stands ∙ m.stands in
      let same : multis.Gen by g.multi g.offset members ≡ multis.Gen m.by g.multi g.offset m.members = cc in
      record { by = by; within = omega arith; stands = stands; ok = ap b.ok (ap multi_by same) ∙ sym m.answered ∙ t }

  pub offset_shown : (k : ℕ) (d : GenMark) (multi n at page : ℕ) (bytes : List ℕ) → k < length marks → ((e : GenMark) → (get_or marks k e).multi ≡ multi) → n ≡ b.multi_place → (get_or marks k d).ok ≡ true → (get_or marks k d).place < n
      → (offset_page (low_half multi) ≡ page → HasWord at bytes (word_place_of multi) (low_half (get_or marks k d).offset)) ↔ ShowsOffset b page at bytes multi
  offset_shown k d multi n at page bytes low its upto t l =
      let x = get_or marks k d in
      let mark = at_index (IsGenMark b.ok b.multis) marks k d are.each low in (
        λ has place offset members g p. subst (λ (o : ℕ). HasWord at bytes (word_place_of multi) (low_half o)) (ap (λ (y : GenMark). y.offset) (the_mark place multi offset members g k d low (its d))) (has p),
        λ shows p. shows x.place x.offset mark.members (subst (λ (m : ℕ). GivesTo b x.place m x.offset mark.members) (its d) (gives_of x n mark upto t l mark.by mark.members mark.stands)) p,
      )

  -- the last that begins there is the one that has a member there
  module _ (at : ℕ) (bytes : List ℕ) (page o count : ℕ) (d : GenMark) (bound : count ≤ length marks) (some : 1 ≤ count) (last : (k : ℕ) (g : GenMark) → slice_get marks k ≡ Some g → g.offset ≤ o → o < g.end → k + 1 ≡ count) where
    the_last : (place multi offset i : ℕ) (members : List Member) (m : Member) (g : GivesTo b place multi offset members) → slice_get members i ≡ Some m → offset + i ≡ o → get_or marks (count - 1) d ≡ mark_of place (b.ok g.by) multi offset members
    the_last place multi offset i members m g a e =
        let x = mark_is place multi offset members g in
        let low : i < length members = within members i m a in
        let n = last x.index (mark_of place (b.ok g.by) multi offset members) x.stands (omega arith) (omega arith) in
        let same : count - 1 ≡ x.index = omega arith in
        ap (λ k. get_or marks k d) same ∙ x.is d

    pub member_shown : (n : ℕ) → n ≡ b.multi_place → (get_or marks (count - 1) d).ok ≡ true → (get_or marks (count - 1) d).place < n → (get_or marks (count - 1) d).offset ≤ o → member_page (low_half o) ≡ page
        → HasMember b.multis at bytes (get_or marks (count - 1) d) o ↔ ShowsMember b page at bytes o
    member_shown n upto t l from p =
        let x = get_or marks (count - 1) d in
        let mark = at_index (IsGenMark b.ok b.multis) marks (count - 1) d are.each (omega arith) in (
          λ has place multi offset i members m g a e q.
              let is = the_last place multi offset i members m g a e in
              let off = ap (λ (y : GenMark). y.offset) is in
              let same : o - x.offset ≡ i = omega arith in
              has members m g.by (subst (λ (y : GenMark). slice_get b.multis y.place ≡ Some (multis.Gen g.by y.multi y.offset members)) (sym is) g.stands) (ap (slice_get members) same ∙ a),
          λ shows members m by stands a. shows x.place x.multi x.offset (o - x.offset) members m (gives_of x n mark upto t l by members stands) a (omega arith) p,
        )

-- the event that the mark is of, where it is read
pub event_is : (b : Behind) (events : List MultiEvent) (g : GenMark) (e : MultiEvent) → IsGenMark b.ok b.multis g → events ≡ b.multis → e ≡ get_or events g.place e → slice_get b.multis g.place ≡ Some e
event_is b events g e m same is =
    let its = got b.multis g.place (multis.Gen m.by g.multi g.offset m.members) e m.stands in
    let both : e ≡ multis.Gen m.by g.multi g.offset m.members = is ∙ ap (λ (h : List MultiEvent). get_or h g.place e) same ∙ its in
    m.stands ∙ ap Some (sym both)

-- ---- the members of one multixact

module _ (h : List MultiEvent) (at : ℕ) (bytes : List ℕ) (g : GenMark) (o : ℕ) (e : MultiEvent) (stands : slice_get h g.place ≡ Some e) where
  pub member_is : (by : By) (members : List Member) (m : Member) → slice_get h g.place ≡ Some (multis.Gen by g.multi g.offset members) → slice_get members (o - g.offset) ≡ Some m → member_in e (o - g.offset) ≡ Some m
  member_is by members m s a =
      let both : Some e ≡ Some (multis.Gen by g.multi g.offset members) = sym stands ∙ s in
      let same : e ≡ multis.Gen by g.multi g.offset members = cc in
      ap (λ (x : MultiEvent). member_in x (o - g.offset)) same ∙ a

  pub is_member : (by : By) (members : List Member) (m : Member) → slice_get h g.place ≡ Some (multis.Gen by g.multi g.offset members) → member_in e (o - g.offset) ≡ Some m → slice_get members (o - g.offset) ≡ Some m
  is_member by members m s a =
      let both : Some e ≡ Some (multis.Gen by g.multi g.offset members) = sym stands ∙ s in
      let same : e ≡ multis.Gen by g.multi g.offset members = cc in
      ap (λ (x : MultiEvent). member_in x (o - g.offset)) (sym same) ∙ a
