-- A lawful world stays lawful where of its allowed flights some are kept, each whole.
use Rattle.std.proofs.Common.{◌≡◌, ◌⊎◌, inl, inr, ℕ, ◌==◌, eqb-true, Bool, true, false, if◌then◌else◌, List, [], ◌∷◌, ◌++◌, length, Some, refl, sym, ap, ◌∙◌, subst}
use Rattle.std.proofs.lemmas.List.{append-nil}
use Rattle.txn_model.proofs.Words.{TxnId, Decision, CoreEntry, CoordEntry, TopicEntry, AckEntry, is_sub, World, list_at, coord_skeleton, coord_skeletons, topic_skeleton, topic_skeletons, ack_skeleton, ack_skeletons, name_of, CoordLawful, decision_of, closing_of, in_parts, TopicLawful, marker_of, AckLawful, log_of, part_skeletons, has_inside, Lawful, Flights, followed, with_kept, flight_skeletons, AllowedFlights}
use Rattle.txn_model.proofs.Bools.{no_true, none_some}
use Rattle.txn_model.proofs.Prefixes.{map_append}
use Rattle.txn_model.proofs.LawfulGrowth.{marker_stays, Growth, lawful_growth}

-- a list has its flight behind it, or not
abbrev pub Chosen : {E : Type 0} → List E → List E → List E → Type 0
Chosen es es' flight = (es' ≡ es ++ flight) ⊎ (es' ≡ es)

abbrev pub more : {E : Type 0} (es es' flight : List E) → Chosen es es' flight → List E
more es es' flight (inl e) = flight
more es es' flight (inr e) = []

more_is : {E : Type 0} (es es' flight : List E) (c : Chosen es es' flight) → es' ≡ es ++ more es es' flight c
more_is es es' flight (inl e) = e
more_is es es' flight (inr e) = e ∙ sym (append-nil es)

more_lawful : {E : Type 0} (P : List E → Type 0) (es es' flight : List E) → Chosen es es' flight → P es → P (es ++ flight) → P es'
more_lawful P es es' flight (inl e) p q = subst P (sym e) q
more_lawful P es es' flight (inr e) p q = subst P (sym e) p

-- from w to w' some of the flights were kept
pub record SomeKept (w w' : World) (f : Flights) : Type 0 where
  pub names : w'.names ≡ w.names
  pub coord : Chosen w.coord w'.coord f.coord
  pub topics : (p : ℕ) → Chosen (list_at w.topics p) (list_at w'.topics p) (f.topics p)
  pub subs : (p : ℕ) → Chosen (list_at w.subs p) (list_at w'.subs p) (f.subs p)

pub part_more : (b : Bool) (es es' flight : List TopicEntry) (a a' held : List AckEntry) (c : Chosen es es' flight) (d : Chosen a a' held)
    → (if b then ack_skeletons a' else topic_skeletons es') ≡ (if b then ack_skeletons a else topic_skeletons es) ++ (if b then ack_skeletons (more a a' held d) else topic_skeletons (more es es' flight c))
part_more true es es' flight a a' held c d = ap ack_skeletons (more_is a a' held d) ∙ map_append ack_skeleton a (more a a' held d)
part_more false es es' flight a a' held c d = ap topic_skeletons (more_is es es' flight c) ∙ map_append topic_skeleton es (more es es' flight c)

-- what holds of nothing, and of the flight, holds of what was kept of it
part_either : (P : List CoreEntry → Type 0) (b : Bool) (es es' flight : List TopicEntry) (a a' held : List AckEntry) (c : Chosen es es' flight) (d : Chosen a a' held)
    → P [] → P (if b then ack_skeletons held else topic_skeletons flight) → P (if b then ack_skeletons (more a a' held d) else topic_skeletons (more es es' flight c))
part_either P true es es' flight a a' held c (inl e) none all = all
part_either P true es es' flight a a' held c (inr e) none all = none
part_either P false es es' flight a a' held (inl e) d none all = all
part_either P false es es' flight a a' held (inr e) d none all = none

pub log_more : (cs cs' flight : List CoordEntry) (c : Chosen cs cs' flight) → coord_skeletons cs' ≡ coord_skeletons cs ++ coord_skeletons (more cs cs' flight c)
log_more cs cs' flight c = ap coord_skeletons (more_is cs cs' flight c) ∙ map_append coord_skeleton cs (more cs cs' flight c)

log_either : (P : List CoreEntry → Type 0) (cs cs' flight : List CoordEntry) (c : Chosen cs cs' flight) → P [] → P (coord_skeletons flight) → P (coord_skeletons (more cs cs' flight c))
log_either P cs cs' flight (inl e) none all = all
log_either P cs cs' flight (inr e) none all = none

module _ (w w' : World) (f : Flights) (choice : SomeKept w w' f) (l : Lawful w) (a : AllowedFlights w f) where
  abbrev added : List CoreEntry
  added = coord_skeletons (more w.coord w'.coord f.coord choice.coord)

  abbrev added_at : ℕ → List CoreEntry
  added_at p =
      if is_sub (name_of w.names p) then ack_skeletons (more (list_at w.subs p) (list_at w'.subs p) (f.subs p) (choice.subs p))
      else topic_skeletons (more (list_at w.topics p) (list_at w'.topics p) (f.topics p) (choice.topics p))

  at_part : (P : List CoreEntry → Type 0) (p : ℕ) → P [] → P (flight_skeletons w f p) → P (added_at p)
  at_part P p none all = part_either P (is_sub (name_of w.names p)) (list_at w.topics p) (list_at w'.topics p) (f.topics p) (list_at w.subs p) (list_at w'.subs p) (f.subs p) (choice.topics p) (choice.subs p) none all

  at_log : (P : List CoreEntry → Type 0) → P [] → P (coord_skeletons f.coord) → P added
  at_log P none all = log_either P w.coord w'.coord f.coord choice.coord none all

  growth : Growth w w' added added_at
  growth =
      record {
        names = choice.names;
        log = log_more w.coord w'.coord f.coord choice.coord;
        parts = λ p. ap (λ names. if is_sub (name_of names p) then ack_skeletons (list_at w'.subs p) else topic_skeletons (list_at w'.topics p)) choice.names
            ∙ part_more (is_sub (name_of w.names p)) (list_at w.topics p) (list_at w'.topics p) (f.topics p) (list_at w.subs p) (list_at w'.subs p) (f.subs p) (choice.topics p) (choice.subs p);
        coord = at_log (λ cs. CoordLawful (length w.names) (log_of w ++ cs)) (subst (CoordLawful (length w.names)) (sym (append-nil (log_of w))) l.coord) a.coord;
        topics = λ p. more_lawful TopicLawful (list_at w.topics p) (list_at w'.topics p) (f.topics p) (choice.topics p) (l.topics p) (a.topics p);
        subs = λ p. more_lawful AckLawful (list_at w.subs p) (list_at w'.subs p) (f.subs p) (choice.subs p) (l.subs p) (a.subs p);
        registered = λ p x. at_part (λ s. has_inside s x ≡ true → in_parts (log_of w) x p ≡ true) p (λ h. absurd (no_true h)) (a.registered p x);
        decided = λ p x d. at_part (λ s. marker_of s x ≡ Some d → decision_of (log_of w) x ≡ Some d) p (λ h. absurd (none_some h)) (a.decided p x d);
        closed = λ x d p. at_log (λ cs. closing_of cs x ≡ Some d → in_parts (log_of w ++ cs) x p ≡ true → marker_of (part_skeletons w p) x ≡ Some d) (λ h. absurd (none_some h)) (a.closed x d p);
      }

  pub lawful_choice : Lawful w'
  lawful_choice = lawful_growth w w' added added_at growth l

-- ---- What a stop keeps is a choice.

chosen_if : {E : Type 0} (b : Bool) (es flight : List E) → Chosen es (if b then es ++ flight else es) flight
chosen_if true es flight = inl refl
chosen_if false es flight = inr refl

chosen_either : {E : Type 0} (b : Bool) (es es' rest rest' : List E) (here there : List E) → (b ≡ true → Chosen es es' there) → Chosen rest rest' there → Chosen (if b then es else rest) (if b then es' else rest') there
chosen_either true es es' rest rest' here there c d = c refl
chosen_either false es es' rest rest' here there c d = d

pub chosen_followed : {E : Type 0} (stays : ℕ → Bool) (flights : ℕ → List E) (ls : List (ℕ × List E)) (q : ℕ) → Chosen (list_at ls q) (list_at (followed stays flights ls) q) (flights q)
chosen_followed stays flights [] q = inr refl
chosen_followed stays flights (l ∷ ls) q =
    chosen_either (l.0 == q) l.1 (if stays l.0 then l.1 ++ flights l.0 else l.1) (list_at ls q) (list_at (followed stays flights ls) q) (flights l.0) (flights q)
    (λ h. subst (λ k. Chosen l.1 (if stays l.0 then l.1 ++ flights l.0 else l.1) (flights k)) (eqb-true l.0 q h) (chosen_if (stays l.0) l.1 (flights l.0)))
    (chosen_followed stays flights ls q)

pub kept_choice : (w : World) (f : Flights) (stays : ℕ → Bool) → SomeKept w (with_kept w f stays) f
kept_choice w f stays =
    record { names = refl; coord = chosen_if (stays 0) w.coord f.coord; topics = λ p. chosen_followed stays f.topics w.topics p; subs = λ p. chosen_followed stays f.subs w.subs p }

pub lawful_kept : (w : World) (f : Flights) (stays : ℕ → Bool) → Lawful w → AllowedFlights w f → Lawful (with_kept w f stays)
lawful_kept w f stays l a = lawful_choice w (with_kept w f stays) f (kept_choice w f stays) l a

-- a marker that stood still stands
pub choice_markers : (w w' : World) (f : Flights) → SomeKept w w' f → (p : ℕ) (x : TxnId) (d : Decision) → marker_of (part_skeletons w p) x ≡ Some d → marker_of (part_skeletons w' p) x ≡ Some d
choice_markers w w' f choice p x d h =
    subst (λ s. marker_of s x ≡ Some d)
    (sym (ap (λ names. if is_sub (name_of names p) then ack_skeletons (list_at w'.subs p) else topic_skeletons (list_at w'.topics p)) choice.names
    ∙ part_more (is_sub (name_of w.names p)) (list_at w.topics p) (list_at w'.topics p) (f.topics p) (list_at w.subs p) (list_at w'.subs p) (f.subs p) (choice.topics p) (choice.subs p)))
    (marker_stays (part_skeletons w p) _ x d h)
