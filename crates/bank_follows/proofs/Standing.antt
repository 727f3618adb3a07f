-- A bank's value stands for its list, call by call.
use Rattle.std.proofs.Common.{List, None, [], inl, refl, subst, sym, ap, ℕ, ◌++◌, ◌∷◌, ◌∙◌, ◌≡◌}
use Rattle.disk_core.specs.Pages.{Pages}
use Rattle.tx_events.proofs.Membership.{has_contains, has_right}
use Rattle.tx_core.specs.declared.entry.Entry.{Entry}
use Rattle.tx_core.specs.declared.entry.Kind.TheVariants as kinds
use Rattle.tx_core.specs.Pages.{zeroed_in}
use Rattle.bank_follows.specs.Begins.{OpenedShows}
use Rattle.bank_follows.specs.Cells.{Cells, IsOnePage, last_made, stored}
use Rattle.bank_follows.specs.Making.{IsGivenPage, MakesStored}
use Rattle.bank_follows.specs.Sections.{KeepBanks, KeepsSections, Moves}
use Rattle.bank_follows.specs.Near.{AreMadeNear}
use Rattle.bank_follows.specs.Standing.{BankStands, BanksStand, KeepStanding, KeepsStanding, Stands, StandsIfNear}
use Rattle.bank_follows.specs.Stores.{IsMemberAt, IsOffsetAt, IsParentAt, IsXactAt, member_cells, offset_cells, parent_cells, xact_cells}
use Rattle.bank_follows.proofs.Begins.{banks_open}
use Rattle.bank_follows.proofs.Making.{stored_pages_made}
use Rattle.bank_follows.proofs.Near.{near_before}
use Rattle.bank_follows.proofs.OnePage.{one_page}
use Rattle.bank_follows.proofs.Sections.{member_sections, offset_sections, parent_sections, xact_sections}
use Rattle.bank_follows.proofs.Stores.{images_follow}

module _ {D : Type 0} (images : D → Pages → Type 0) (moment : D → ℕ) (left_at : D → ℕ → Pages → Type 0) where
  module _ {I V : Type 0} (s : Cells I V) (Asked : ℕ → Type 0) (made : MakesStored s) (sections : KeepBanks images moment left_at s Asked) (one : (page : ℕ) → IsGivenPage s page → IsOnePage s Asked page) where
    keeps_standing : (es : List Entry) (e : Entry) (old new : ℕ → List ℕ) (cutoff last : ℕ) (before after : D) → ((c : Pages) → left_at before (moment before) c → images before c)
        → StandsIfNear images moment left_at s Asked es old cutoff last before → AreMadeNear s (es ++ e ∷ []) → KeepsStanding images moment left_at s Asked es e old new cutoff last before after
    keeps_standing es e old new cutoff last before after only_now held near =
        let was : BankStands images moment left_at s Asked es old cutoff last before = held (near_before s es e near) in
        let all : List Entry = es ++ e ∷ [] in
        let keep : KeepsSections images moment left_at s Asked es e old new cutoff before after = sections es e old new cutoff before after only_now was.shows in
        -- the last page behind an entry that makes none
        let same_last : zeroed_in e.kind ≡ None → last_made s all ≡ last_made s es = made.stays es e in
        let stays : (none : zeroed_in e.kind ≡ None) (to : ℕ) → Moves images moment left_at s Asked es e new to before after → Stands images moment left_at s Asked all all new to last before after = λ none to moves. record {
          behind = record {
            shows = moves.shows;
            last_is = was.last_is ∙ ap (stored s) (sym (same_last none));
            given = subst (IsGivenPage s) (sym (same_last none)) was.given;
          };
          throughout = moves.throughout;
        } in
        record {
          looks = λ other quiet same call. stays quiet.makes_none cutoff (keep.looks other quiet same call);
          sets = λ other said call. stays said.makes_none cutoff (keep.sets other said call);
          makes = λ page kind none puts call.
              let zero : Entry = record { by = e.by; kind = kinds.Zero page } in
              let given : IsGivenPage s page = near e.by page (has_contains (es ++ e ∷ []) zero (has_right es (e ∷ []) zero (inl (λ i. record { by = e.by; kind = kind i })))) in
              let moves = keep.makes page kind none (one page given) (made.makes es page last old new was.given given was.last_is puts) call in
              record {
                behind = record {
                  shows = moves.shows;
                  last_is = made.last es e page last kind was.given given was.last_is;
                  given = made.given es e page kind was.given given;
                };
                throughout = moves.throughout;
              };
          cuts = λ page other cut quiet drop call. stays quiet.makes_none _ (keep.cuts page other cut quiet drop call);
          syncs = λ quiet same call durable.
              let synced = keep.syncs quiet same call durable in
              record {
                behind = record {
                  shows = synced.0;
                  last_is = was.last_is ∙ ap (stored s) (sym (same_last quiet.makes_none));
                  given = subst (IsGivenPage s) (sym (same_last quiet.makes_none)) was.given;
                };
                throughout = synced.1;
              };
        }

    keep_standing : OpenedShows images moment left_at s Asked → s.reading.store.page_of s.reading.first ≡ last_made s [] → KeepStanding images moment left_at s Asked
    keep_standing opened begins = record {
      keeps = keeps_standing;
      opens = λ pages cutoff last d is e. record { shows = opened pages cutoff d is; last_is = e ∙ ap (stored s) begins; given = made.first };
    }

  pub banks_stand : BanksStand images moment left_at
  banks_stand start bank =
      let opened = banks_open images moment left_at start bank in
      let made = stored_pages_made start in
      let each = one_page start bank in
      record {
        xact = λ shown. keep_standing (xact_cells start shown) (IsXactAt start bank) (made.xact shown) (xact_sections images moment left_at start shown bank)
            (λ page given. subst (IsOnePage (xact_cells start shown) (IsXactAt start bank)) (sym given.3) (each.xact shown given.0 given.1 given.2)) (opened.xact shown) refl;
        parents = keep_standing (parent_cells start) (IsParentAt start bank) made.parents (parent_sections images moment left_at start bank)
            (λ page given. subst (IsOnePage (parent_cells start) (IsParentAt start bank)) (sym given.3) (each.parents given.0 given.1 given.2)) opened.parents refl;
        offsets = λ shown. keep_standing (offset_cells start shown) (IsOffsetAt start bank) (made.offsets shown) (offset_sections images moment left_at start shown bank)
            (λ page given. subst (IsOnePage (offset_cells start shown) (IsOffsetAt start bank)) (sym given.3) (each.offsets shown given.0 given.1 given.2)) (opened.offsets shown) refl;
        members = λ shown. keep_standing (member_cells start shown) (IsMemberAt start bank) (made.members shown) (member_sections images moment left_at start shown bank)
            (λ page given. subst (IsOnePage (member_cells start shown) (IsMemberAt start bank)) (sym given.3) (each.members shown given.0 given.1 given.2)) (opened.members shown) refl;
        states_left = λ shown es pages cutoff last d c clean stands left. record { shown = shown; clean = clean; follows = (images_follow start bank es c).0 shown (stands.shows.left c left) };
        offsets_left = λ shown es pages cutoff last d c clean stands left. record { shown = shown; clean = clean; follows = (images_follow start bank es c).1 shown (stands.shows.left c left) };
        members_left = λ shown es pages cutoff last d c clean stands left tails. record { shown = shown; clean = clean; follows = (images_follow start bank es c).2 shown (stands.shows.left c left); tails = tails };
      }
