-- What a call answers or leaves, accepted or refused, and the first of several refusals.
use Rattle.std.specs.Prelude.{ℕ, zero, suc, Some, None, Ok, Err, Option, Result}

-- the first of two
abbrev pub either : {A : Type 0} → Option A → Option A → Option A
either (Some x) o = Some x
either None o = o

-- the first that f gives below m
unfoldable pub first : {A : Type 0} → (ℕ → Option A) → ℕ → Option A
first f zero = None
first f (suc m) = either (first f m) (f m)

abbrev pub failed : {A F : Type 0} → Result A F → Option F
failed (Ok x) = None
failed (Err w) = Some w

-- x, unless something is refused
abbrev pub outcome : {A F : Type 0} → Option F → A → Result A F
outcome (Some w) x = Err w
outcome None x = Ok x

-- what an accepted call leaves, or a refused one
abbrev pub unless : {A F : Type 0} → Option F → A → A → A
unless None accepted refused = accepted
unless (Some w) accepted refused = refused

abbrev pub and_then : {A B F : Type 0} → Result A F → (A → Result B F) → Result B F
and_then (Ok x) next = next x
and_then (Err w) next = Err w

abbrev pub map_ok : {A B F : Type 0} → (A → B) → Result A F → Result B F
map_ok f (Ok x) = Ok (f x)
map_ok f (Err w) = Err w

abbrev pub map_err : {A F G : Type 0} → (F → G) → Result A F → Result A G
map_err f (Ok x) = Ok x
map_err f (Err w) = Err (f w)
