-- What a read of a topic's list gives are the first visible places of its skeletons.
use Rattle.std.proofs.Common.{◌≡◌, ◌≤◌, ◌+◌, arith, leb-true, le-leb, ℕ, zero, suc, Bool, true, false, if◌then◌else◌, List, [], ◌∷◌, ◌++◌, length, take, refl, sym, ap, ◌∙◌, subst}
use Rattle.std.specs.Prelude.{map, filter, min, nat_le}
use Rattle.std.proofs.lemmas.List.{length-map}
use Rattle.std.proofs.Math.Dec.{leb-zero}
use mathlib.Core.List.{IsPrefix}
use Rattle.txn_base.specs.declared.limits.Limits.{Limits}
use Rattle.txn_base.specs.declared.messages.Message.{Message}
use Rattle.txn_base.specs.declared.entry.TopicEntry.{TopicEntry}
use Rattle.txn_model.specs.Skeletons.{topic_skeletons}
use Rattle.txn_model.specs.Topic.{visible_of, fitting, first_and_fitting, cut_short, read_slice}
use Rattle.txn_model.specs.VisiblePlaces.{visible_places}
use Rattle.txn_model.proofs.Laws.Topics.{places_are}
use Rattle.txn_model.proofs.Laws.Lists.{map_append}
use Rattle.txn_core.specs.Steps.{CoreState, settled_of, from_place, told_places, can}
use Rattle.txn_core.specs.Reads.{message_places, read_step}
use Rattle.txn_core.proofs.Telling.{prefix_trans}

-- ---- A read gives the first of the visible messages.

cons_front : (m : Message) (xs ys : List Message) → IsPrefix xs ys → IsPrefix (m ∷ xs) (m ∷ ys)
cons_front m xs ys p = (p.0, ap (λ l. m ∷ l) p.1)

fitting_step : (b : Bool) (m : Message) (xs ys : List Message) → IsPrefix xs ys → IsPrefix (if b then m ∷ xs else []) (m ∷ ys)
fitting_step true m xs ys p = cons_front m xs ys p
fitting_step false m xs ys p = (m ∷ ys, refl)

fitting_front : (bytes spent : ℕ) (ms : List Message) → IsPrefix (fitting bytes spent ms) ms
fitting_front bytes spent [] = ([], refl)
fitting_front bytes spent (m ∷ ms) = fitting_step (nat_le (spent + length m.body) bytes) m (fitting bytes (spent + length m.body) ms) ms (fitting_front bytes (spent + length m.body) ms)

first_front : (bytes : ℕ) (ms : List Message) → IsPrefix (first_and_fitting bytes ms) ms
first_front bytes [] = ([], refl)
first_front bytes (m ∷ ms) = cons_front m (fitting bytes (length m.body) ms) ms (fitting_front bytes (length m.body) ms)

take_front : (count : ℕ) (ms : List Message) → IsPrefix (take count ms) ms
take_front zero ms = (ms, refl)
take_front (suc count) [] = ([], refl)
take_front (suc count) (m ∷ ms) = cons_front m (take count ms) ms (take_front count ms)

cut_front : (limits : Limits) (max : ℕ) (ms : List Message) → IsPrefix (cut_short limits max ms) ms
cut_front limits max ms =
    prefix_trans (cut_short limits max ms) (take (min max limits.read_messages) ms) ms (first_front limits.read_bytes (take (min max limits.read_messages) ms)) (take_front (min max limits.read_messages) ms)

-- ---- The same of the places.

kept_step : (first : ℕ) (b : Bool) (m : Message) (ms : List Message) → message_places (if b then m ∷ ms else ms) ≡ (if b then m.place ∷ message_places ms else message_places ms)
kept_step first true m ms = refl
kept_step first false m ms = refl

places_from : (first : ℕ) (ms : List Message) → message_places (filter (λ m. nat_le first m.place) ms) ≡ from_place first (message_places ms)
places_from first [] = refl
places_from first (m ∷ ms) =
    kept_step first (nat_le first m.place) m (filter (λ k. nat_le first k.place) ms)
    ∙ ap (λ l. if nat_le first m.place then m.place ∷ l else l) (places_from first ms)

-- the visible messages from a place on have the visible places from there on
from_are : (first : ℕ) (es : List TopicEntry) → message_places (filter (λ m. nat_le first m.place) (visible_of es)) ≡ from_place first (visible_places (topic_skeletons es))
from_are first es = places_from first (visible_of es) ∙ ap (from_place first) (places_are es)

places_front : (xs ys : List Message) → IsPrefix xs ys → IsPrefix (message_places xs) (message_places ys)
places_front xs ys p = (message_places p.0, sym (map_append (λ m. m.place) xs p.0) ∙ ap message_places p.1)

read_front : (limits : Limits) (es : List TopicEntry) (first max : ℕ) → IsPrefix (message_places (read_slice limits es first max)) (from_place first (visible_places (topic_skeletons es)))
read_front limits es first max =
    subst (λ l. IsPrefix (message_places (read_slice limits es first max)) l) (from_are first es)
    (places_front (read_slice limits es first max) (filter (λ m. nat_le first m.place) (visible_of es)) (cut_front limits max (filter (λ m. nat_le first m.place) (visible_of es))))

front_taken : (xs more : List ℕ) → xs ≡ take (length xs) (xs ++ more)
front_taken [] more = refl
front_taken (x ∷ xs) more = ap (λ l. x ∷ l) (front_taken xs more)

front_fits : (xs more : List ℕ) → nat_le (length xs) (length (xs ++ more)) ≡ true
front_fits [] more = leb-zero (length more)
front_fits (x ∷ xs) more =
    let h : length xs ≤ length (xs ++ more) = leb-true (length xs) (length (xs ++ more)) (front_fits xs more) in
    le-leb (suc (length xs)) (suc (length (xs ++ more))) (omega (arith, h))

pub read_told : (limits : Limits) (es : List TopicEntry) (first max : ℕ) → message_places (read_slice limits es first max) ≡ told_places (topic_skeletons es) first (length (read_slice limits es first max))
read_told limits es first max =
    let slice : List Message = read_slice limits es first max in
    let p : IsPrefix (message_places slice) (from_place first (visible_places (topic_skeletons es))) = read_front limits es first max in
    front_taken (message_places slice) p.0
    ∙ ap (take (length (message_places slice))) p.1
    ∙ ap (λ k. take k (from_place first (visible_places (topic_skeletons es)))) (length-map slice (λ m. m.place))

read_fits : (limits : Limits) (es : List TopicEntry) (first max : ℕ) → nat_le (length (read_slice limits es first max)) (length (from_place first (visible_places (topic_skeletons es)))) ≡ true
read_fits limits es first max =
    let slice : List Message = read_slice limits es first max in
    let p : IsPrefix (message_places slice) (from_place first (visible_places (topic_skeletons es))) = read_front limits es first max in
    ap (λ k. nat_le k (length (from_place first (visible_places (topic_skeletons es))))) (sym (length-map slice (λ m. m.place)))
    ∙ ap (λ l. nat_le (length (message_places slice)) (length l)) (sym p.1)
    ∙ front_fits (message_places slice) p.0

pub read_can : (n : ℕ) (s : CoreState) (limits : Limits) (es : List TopicEntry) (topic first max : ℕ) → settled_of s topic ≡ topic_skeletons es → can n s (read_step limits es topic first max) ≡ true
read_can n s limits es topic first max e =
    ap (λ l. nat_le (length (read_slice limits es first max)) (length (from_place first (visible_places l)))) e
    ∙ read_fits limits es first max
