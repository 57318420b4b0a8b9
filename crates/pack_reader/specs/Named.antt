-- Names at the end of a body; and the names of things that were read from places, which are the places' keys.
use Rattle.std.specs.Prelude.{◌≡◌, refl, Bool, true, false, not, List, [], ◌∷◌, map, ℕ, zero, suc, ◌-◌, ◌<◌, length, get_or, take, drop}
use Rattle.std.proofs.Common.{sym, ap, ◌∙◌, arith, length-drop}
use Rattle.std.proofs.lemmas.List.{length-map}
use Rattle.std.proofs.Math.Seq.{take-length}
use Rattle.definition.specs.Theory.{is_name}
use Rattle.pack_tables.specs.Place.{Place, no_place, key_at}
use Rattle.pack_read.specs.Reads.{Listed, listed-length}
use Rattle.pack_tables.specs.Name.{denied, not_denied}
use Rattle.pack_reader.specs.Taking.{Names}

-- what is lent of a body from its n-th byte on
rest_is : (body : List ℕ) (n : ℕ) → take (length body - n) (drop n body) ≡ drop n body
rest_is body n = ap (λ (k : ℕ). take k (drop n body)) (sym (length-drop n body)) ∙ take-length (drop n body)

-- the test of a name there, that code negates
pub rest_misnamed : (body : List ℕ) (n : ℕ) (b : Bool) → b ≡ is_name (take (length body - n) (drop n body)) → not b ≡ true → is_name (drop n body) ≡ false
rest_misnamed body n b e = denied b _ (e ∙ ap is_name (rest_is body n))

pub rest_named : (body : List ℕ) (n : ℕ) (b : Bool) → b ≡ is_name (take (length body - n) (drop n body)) → not b ≡ false → is_name (drop n body) ≡ true
rest_named body n b e = not_denied b _ (e ∙ ap is_name (rest_is body n))

name-at : {A : Type 0} (f : Place → A) (name : A → List ℕ) (ps : List Place) (i : ℕ) → i < length ps → get_or (map name (map f ps)) i [] ≡ name (f (get_or ps i no_place))
name-at f name [] i h = absurd (omega arith)
name-at f name (p ∷ ps) zero h = refl
name-at f name (p ∷ ps) (suc i) h = name-at f name ps i (omega arith)

pub listed_names : {A : Type 0} (bytes : List ℕ) (f : Place → A) (Form : Place → Type 0) (name : A → List ℕ) (xs : List A) (ps : List Place)
    → ((p : Place) → Form p → key_at bytes p ≡ name (f p)) → Listed f Form xs ps → Names bytes (map name xs) ps
listed_names bytes f Form name xs ps key L = record {
  many = length-map xs name ∙ listed-length f Form xs ps L;
  each = λ i h. ap (λ (ys : List _). get_or (map name ys) i []) L.are ∙ name-at f name ps i h ∙ sym (key _ (L.form i h));
}
