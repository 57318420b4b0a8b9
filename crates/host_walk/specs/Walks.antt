-- What code holds of what a call came to, and the laws of leaving it.
use Rattle.std.specs.Prelude.{Result, Ok, Err}
use Rattle.std.specs.Prelude.{◌≡◌, refl, List, ℕ, ◌≤◌, length, take, replicate}
use Rattle.std.proofs.Common.{sym, ap, ◌∙◌, length-take-le}
use Rattle.std.proofs.Math.Option.{none, some}
use Rattle.definition.specs.Pack.{Pack}
use Rattle.definition.specs.Frame.{fine}
use Rattle.definition.specs.Parse.{parse}
use Rattle.definition.specs.Store.{pattern_words}
use Rattle.definition.specs.Answer.{Lent, answer, lengths, padded}
use Rattle.definition.specs.declared.Answer.{Answer}
use Rattle.definition.specs.declared.Refusal.{Refusal}
use Rattle.buffer.specs.Zero.{filled, zeroed}
use Rattle.base.specs.declared.id.Pattern.{Pattern}
use Rattle.store.specs.Words.{begins_long, begins_take}
use Rattle.store.specs.Stored.{Stored, nodes}
use Rattle.store.specs.declared.nodes.Store.{Store}
use Rattle.dock_call.specs.Opening.{opening_refusal, pack_opened}
use Rattle.host_walk.specs.declared.answer.Walked.{Walked}
use Rattle.host_walk.specs.Came.{Came, done, refused, Left, said, words_left, leaves, opened}

-- the words hold the store, with some index
abbrev pub Kept : List ℕ → Store → Type 0
Kept words st = (index : List ℕ) × Stored index words st

-- the words hold the store that a call came to
abbrev pub Ends : List ℕ → Result (Pattern × Store × ℕ × ℕ) Answer → Type 0
Ends words (Ok (p, st, n, k)) = Kept words st
Ends words (Err a) = Unit {0}

-- what a call came to
abbrev pub came_of : List ℕ → Result (Pattern × Store × ℕ × ℕ) Answer → Came
came_of words (Ok (p, st, n, k)) = done p.0 (nodes words st) n k
came_of words (Err a) = refused a.code a.place

-- it is what it must be
abbrev pub Walks : List ℕ → Came → Result (Pattern × Store × ℕ × ℕ) Answer → Type 0
Walks words came w = Ends words w × (came_of words w ≡ came)

-- ---- leaving
-- zeros behind the store's words
kept-padded : (index words : List ℕ) (st : Store) → Stored index words st → (used : ℕ) → used ≡ length (pattern_words (nodes words st)) → zeroed used words ≡ padded (length words) (pattern_words (nodes words st))
unfolding filled padded
kept-padded index words st S used e =
    let B = S.placed.begins in
    let long = begins_long (nodes words st) words B in
    ap (λ (u : ℕ). zeroed u words) e ∙ first (length (pattern_words (nodes words st))) words long ∙ ap (padded (length words)) (begins_take (nodes words st) words B)
  where
    first : (n : ℕ) (xs : List ℕ) → n ≤ length xs → zeroed n xs ≡ padded (length xs) (take n xs)
    first n xs h = rw (length-take-le n xs h)

-- the answer and the patterns' words are told
abbrev pub Tells : Came → Walked → List ℕ → ℕ → Type 0
Tells came r words room = (r ≡ said came) × (words ≡ words_left came room)

-- a pattern is told
pub told-done : (words : List ℕ) (p : Pattern) (st : Store) (numbered n : ℕ) (K : Kept words st) (used : ℕ) → used ≡ length (pattern_words (nodes words st)) → (words' : List ℕ) → words' ≡ zeroed used words
    → Tells (done p.0 (nodes words st) numbered n) (record { code = 0; at = p.0; numbered = numbered; cells = n }) words' (length words)
unfolding said words_left
told-done words p st numbered n K used e words' a = (refl, a ∙ kept-padded K.0 words st K.1 used e)

-- a refusal is told
pub told-refused : (code place room : ℕ) (words' : List ℕ) → words' ≡ replicate room 0 → Tells (refused code place) (record { code = code; at = place; numbered = 0; cells = 0 }) words' room
unfolding said words_left
told-refused code place room words' a = (refl, a)

-- so is what a call came to
pub tell_as : (words : List ℕ) (w v : Result (Pattern × Store × ℕ × ℕ) Answer) (r : Walked) (words' : List ℕ) (room : ℕ) → w ≡ v → Tells (came_of words v) r words' room → Tells (came_of words w) r words' room
tell_as words w v r words' room e T = rw e T

-- with zeros for cells and work it is what is left
pub left-told : (came : Came) (r : Walked) (words' cells' work' : List ℕ) (a b c : ℕ) → Tells came r words' a → cells' ≡ replicate b 0 → work' ≡ replicate c 0 → ◌≡◌ {A = Left} (record { answer = r; patterns = words'; cells = cells'; work = work' }) (leaves came a b c)
unfolding leaves
left-told came r words' cells' work' a b c T y z = λ x. record { answer = T.0 x; patterns = T.1 x; cells = y x; work = z x }

-- ---- opening
-- the pack is refused
pub opened-refused : (l : Lent) (pack words : List ℕ) (f : Pack → Came) (r : Refusal) (a : Answer) → opening_refusal l pack ≡ some r → a ≡ answer (some r) → Walks words (opened l pack f) (Err a)
unfolding opened answer
opened-refused l pack words f r a e q = (tt, rw (e, opened, q))

-- the pack is read
pub opened_read : (l : Lent) (pack words : List ℕ) (f : Pack → Came) (P : Pack) (w : Result (Pattern × Store × ℕ × ℕ) Answer) → lengths l ≡ none → parse pack ≡ fine P → Walks words (f P) w → Walks words (opened l pack f) w
unfolding opened
opened_read l pack words f P w n p W = (W.0, W.1 ∙ rw (pack_opened l pack (sym n) P p, opened, p))

-- and it is left where the lengths are as they were
pub left_as : (came : Came) (words cells work : List ℕ) (w : Result (Pattern × Store × ℕ × ℕ) Answer) (a b c : ℕ) → Walks words came w → length words ≡ a → length cells ≡ b → length work ≡ c → leaves (came_of words w) (length words) (length cells) (length work) ≡ leaves came a b c
left_as came words cells work w a b c W l m n = rw (l, m, n) (ap (λ (x : Came). leaves x a b c) W.1)
