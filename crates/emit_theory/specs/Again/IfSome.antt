-- What holds of a result, where there is one.
use Rattle.std.proofs.Math.Option.{Option, none, some}

abbrev pub IfSome : {A : Type 0} → (A → Type 0) → Option A → Type 0
IfSome Q none = Unit {0}
IfSome Q (some a) = Q a

-- what holds of everything
pub if-any : {A : Type 0} (Q : A → Type 0) → ((a : A) → Q a) → (o : Option A) → IfSome Q o
if-any Q h none = tt
if-any Q h (some a) = h a

-- what follows from what holds
pub if_then : {A : Type 0} (Q R : A → Type 0) → ((a : A) → Q a → R a) → (o : Option A) → IfSome Q o → IfSome R o
if_then Q R h none q = tt
if_then Q R h (some a) q = h a q
