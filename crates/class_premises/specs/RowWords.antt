-- The words of class rows, one behind the other.
use Rattle.std.specs.Prelude.{◌≡◌, refl, Bool, true, false, List, [], ◌∷◌, ◌++◌, map, ℕ, zero, suc, ◌+◌, ◌≤◌, ◌<◌, length, get_or, take, drop}
use Rattle.std.proofs.Common.{sym, ap, ap₂, ◌∙◌, append_assoc, append-nil, arith, length-append, drop-drop}
use Rattle.std.proofs.lemmas.List.{length-map}
use Rattle.std.proofs.Math.Seq.{drop-append_seam}
use Rattle.definition.specs.Keys.{Keyed, no_keyed}
use Rattle.definition.specs.Classes.{Class, no_class, mark, row_words}
use Rattle.graph.specs.Cells.{mark_in}

-- a class's row
unfoldable pub row_of : Class → ℕ → List ℕ
unfolding mark
row_of c count = c.conclusion ∷ count ∷ length c.flex ∷ map mark c.flex

-- how many words it has, and how many the rows of some classes have
abbrev pub width_of : Class → ℕ
width_of c = 3 + length c.flex

unfoldable pub width : List Class → ℕ
width [] = 0
width (c ∷ cs) = width_of c + width cs

pub length-row : (c : Class) (count : ℕ) → length (row_of c count) ≡ width_of c
unfolding row_of
length-row c count = omega (arith, length-map c.flex mark)

-- one class more
pub width-more : (cs : List Class) (c : Class) → width (cs ++ (c ∷ [])) ≡ width cs + width_of c
unfolding width
width-more [] c = omega arith
width-more (d ∷ cs) c = omega (arith, width-more cs c)

pub rows_more : (cs : List Class) (ks : List Keyed) (c : Class) → length cs < length ks → row_words (cs ++ (c ∷ [])) ks ≡ row_words cs ks ++ row_of c (get_or ks (length cs) no_keyed).count
unfolding row_words row_of
rows_more [] [] c h = absurd (omega arith)
rows_more [] (k ∷ ks) c h = append-nil (row_of c k.count)
rows_more (d ∷ cs) [] c h = absurd (omega arith)
rows_more (d ∷ cs) (k ∷ ks) c h =
    ap (λ (ws : List ℕ). row_of d k.count ++ ws) (rows_more cs ks c (omega arith))
    ∙ sym (append_assoc (row_of d k.count) (row_words cs ks) (row_of c (get_or ks (length cs) no_keyed).count))

pub length-rows : (cs : List Class) (ks : List Keyed) → length cs ≤ length ks → length (row_words cs ks) ≡ width cs
unfolding row_words width row_of
length-rows [] ks h = refl
length-rows (c ∷ cs) [] h = absurd (omega arith)
length-rows (c ∷ cs) (k ∷ ks) h = omega (arith, length-append (row_of c k.count) (row_words cs ks), length-row c k.count, length-rows cs ks (omega arith))

-- where a class's row starts, behind those before it
abbrev pub before : List Class → ℕ → ℕ
before cs i = width (take i cs)

-- the words from there on are its row, and others
pub row_there : (cs : List Class) (ks : List Keyed) (i : ℕ) → i < length cs → length cs ≤ length ks
    → drop (before cs i) (row_words cs ks) ≡ row_of (get_or cs i no_class) (get_or ks i no_keyed).count ++ drop (before cs i + width_of (get_or cs i no_class)) (row_words cs ks)
unfolding row_words width row_of
row_there [] ks i h l = absurd (omega arith)
row_there (c ∷ cs) [] i h l = absurd (omega arith)
row_there (c ∷ cs) (k ∷ ks) zero h l =
    let e : 0 + width_of c ≡ length (row_of c k.count) = omega (arith, length-row c k.count) in
    ap (λ (ws : List ℕ). row_of c k.count ++ ws) (sym (ap (λ (n : ℕ). drop n (row_of c k.count ++ row_words cs ks)) e ∙ drop-append_seam (row_of c k.count) (row_words cs ks)))
row_there (c ∷ cs) (k ∷ ks) (suc i) h l =
    let n = length-row c k.count in
    let skip : (m : ℕ) → drop (width_of c + m) (row_of c k.count ++ row_words cs ks) ≡ drop m (row_words cs ks) =
    λ m. ap (λ (j : ℕ). drop (j + m) (row_of c k.count ++ row_words cs ks)) (sym n) ∙ sym (drop-drop m (length (row_of c k.count)) (row_of c k.count ++ row_words cs ks)) ∙ ap (drop m) (drop-append_seam (row_of c k.count) (row_words cs ks)) in
    let a : width_of c + before cs i + width_of (get_or cs i no_class) ≡ width_of c + (before cs i + width_of (get_or cs i no_class)) = omega arith in
    skip (before cs i) ∙ row_there cs ks i (omega arith) (omega arith)
    ∙ ap (λ (ws : List ℕ). row_of (get_or cs i no_class) (get_or ks i no_keyed).count ++ ws) (sym (ap (λ (m : ℕ). drop m (row_of c k.count ++ row_words cs ks)) a ∙ skip (before cs i + width_of (get_or cs i no_class))))

-- marks read back
pub mark-back : (b : Bool) → mark_in (mark b) ≡ b
unfolding mark
mark-back true = refl
mark-back false = refl

pub marks-back : (bs : List Bool) → map mark_in (map mark bs) ≡ bs
marks-back [] = refl
marks-back (b ∷ bs) = ap₂ ◌∷◌ (mark-back b) (marks-back bs)
