-- The forms of names.
use Rattle.std.specs.Prelude.{ℕ, ◌==◌, ◌&&◌, ◌||◌, not, nat_le, Bool, false, if◌then◌else◌, List, [], ◌∷◌, length}
use Rattle.std.specs.List.{list_any, list_all, before_first, after_first}

-- A letter, a digit, or one of - . _
abbrev pub is_name_byte : ℕ → Bool
is_name_byte b = (nat_le 48 b && nat_le b 57) || (nat_le 65 b && nat_le b 90) || (nat_le 97 b && nat_le b 122) || b == 45 || b == 46 || b == 95

abbrev pub begins_with_dash : List ℕ → Bool
begins_with_dash [] = false
begins_with_dash (b ∷ bs) = b == 45

-- A topic's name: 1 to 100 such bytes, the first of which isn't -
abbrev pub is_topic_name : List ℕ → Bool
is_topic_name name = nat_le 1 (length name) && nat_le (length name) 100 && not (begins_with_dash name) && list_all is_name_byte name

abbrev pub is_slash : ℕ → Bool
is_slash b = b == 47

-- The name is one of a subscription, and this is the name of its topic.
abbrev pub is_sub : List ℕ → Bool
is_sub name = list_any is_slash name

abbrev pub topic_of : List ℕ → List ℕ
topic_of name = before_first is_slash name

-- A name of a topic, or of a subscription: a topic's name, / and a second name of the same form.
abbrev pub is_name : List ℕ → Bool
is_name name = if is_sub name then is_topic_name (topic_of name) && is_topic_name (after_first is_slash name) else is_topic_name name
