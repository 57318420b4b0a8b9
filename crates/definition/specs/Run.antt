-- Document 01, "The answer of a call": a run notes each write to a buffer, and the answer is read off its notes.
use Rattle.std.specs.Prelude.{◌≡◌, Bool, true, false, List, [], ◌∷◌, ◌++◌, ℕ, eqb, leb}
use Rattle.std.proofs.Math.Option.{Option, none, some}
use Rattle.definition.specs.Test.{all}
use Rattle.definition.specs.Frame.{Read, fine, refuse}
use Rattle.definition.specs.Answer.{Lent}
use Rattle.definition.specs.declared.Refusal.{Refusal}
use Rattle.definition.specs.declared.Refusal.TheVariants.{Short}

-- a write: to which buffer, and how full it then is; for the graph, its cells
pub record Note : Type 0 where
  pub buffer : ℕ
  pub fill : ℕ

-- a run, which knows no lengths: its notes in their order, and what it came to or the refusal that it met
infixl 20 ◌>>=◌
pub data Run (A : Type 0) : Type 0 where
  done : List Note → A → Run A
  stop : List Note → Refusal → Run A

unfoldable pub behind : {A : Type 0} → List Note → Run A → Run A
behind ns (done ms a) = done (ns ++ ms) a
behind ns (stop ms r) = stop (ns ++ ms) r

unfoldable pub ◌>>=◌ : {A B : Type 0} → Run A → (A → Run B) → Run B
unfolding behind
done ns a >>= f = behind ns (f a)
stop ns r >>= f = stop ns r

abbrev pub note : ℕ → ℕ → Run (Unit {0})
note buffer fill = done (record { buffer = buffer; fill = fill } ∷ []) tt

abbrev pub return : {A : Type 0} → A → Run A
return a = done [] a

-- what is there, or a refusal
unfoldable pub or_else : {A : Type 0} → Option A → Refusal → Run A
or_else none r = stop [] r
or_else (some a) r = done [] a

-- a test, or a refusal
unfoldable pub need : Bool → Refusal → Run (Unit {0})
need true r = done [] tt
need false r = stop [] r

abbrev pub notes : {A : Type 0} → Run A → List Note
notes (done ns a) = ns
notes (stop ns r) = ns

-- the length lent of a buffer: "1 class, 2 pattern, 3 graph, 4 work, 5 proof or shown text, 6 goals"
unfoldable pub length_of : Lent → ℕ → ℕ
length_of l b =
    elim (eqb b 1) [
      | true ↦ l.class
      | false ↦
          elim (eqb b 2) [
            | true ↦ l.pattern
            | false ↦
                elim (eqb b 3) [
                  | true ↦ l.graph
                  | false ↦
                      elim (eqb b 4) [
                        | true ↦ l.work
                        | false ↦
                            elim (eqb b 5) [ true ↦ l.text | false ↦ l.goals ]
                      ]
                ]
          ]
    ]

-- a write that its buffer has room for
unfoldable pub has_room_for : Lent → Note → Bool
unfolding length_of
has_room_for l n = leb n.fill (length_of l n.buffer)

-- "buffers are long enough": said of what the run writes
abbrev pub LongEnough : {A : Type 0} → Lent → Run A → Type 0
LongEnough l r = all (has_room_for l) (notes r) ≡ true

-- "The first such write in the run's order is the one named"
unfoldable pub first_short : Lent → List Note → Option ℕ
unfolding has_room_for
first_short l [] = none
first_short l (n ∷ ns) = elim (has_room_for l n) [ true ↦ first_short l ns | false ↦ some n.buffer ]

-- a short buffer; else what the run met; else what it came to
unfoldable pub outcome : {A : Type 0} → Lent → Run A → Read A
unfolding first_short
outcome l (done ns a) = elim (first_short l ns) [ some b ↦ refuse (Short b) | none ↦ fine a ]
outcome l (stop ns r) = elim (first_short l ns) [ some b ↦ refuse (Short b) | none ↦ refuse r ]
