-- What code holds of what the call came to, and the laws of opening and leaving.
use Rattle.std.specs.Prelude.{Result, Ok, Err}
use Rattle.std.specs.Prelude.{◌≡◌, refl, List, ℕ, ◌+◌, ◌≤◌, length, take, replicate}
use Rattle.std.proofs.Common.{sym, ap, ◌∙◌, length-take-le}
use Rattle.std.proofs.Math.Option.{none, some}
use Rattle.definition.specs.Pack.{Pack}
use Rattle.definition.specs.Frame.{fine}
use Rattle.definition.specs.Parse.{parse}
use Rattle.definition.specs.Answer.{Lent, answer_of, answer, lengths, padded}
use Rattle.definition.specs.declared.Answer.{Answer}
use Rattle.definition.specs.declared.Refusal.{Refusal}
use Rattle.buffer.specs.Zero.{filled, zeroed}
use Rattle.dock_call.specs.Opening.{opening_refusal, pack_opened}
use Rattle.emit_state.specs.declared.standing.Proved.{Proved}
use Rattle.emit_state.specs.declared.standing.Proved.TheVariants.{Line, Fails, Refused as NoRoom}
use Rattle.host_search.specs.declared.answer.Searched.{Searched}
use Rattle.host_search.specs.Came.{Came, told, refused, Left, said, text_left, leaves, opened}

-- the text ends in its buffer
abbrev pub Ends : List ℕ → Result (ℕ × ℕ) Answer → Type 0
Ends proof (Ok (n, text)) = text ≤ length proof
Ends proof (Err a) = Unit {0}

-- what the call came to
abbrev pub came_of : List ℕ → Result (ℕ × ℕ) Answer → Came
came_of proof (Ok (n, text)) = told n (take text proof)
came_of proof (Err a) = refused a.code a.place

-- it is what it must be
abbrev pub Comes : List ℕ → Came → Result (ℕ × ℕ) Answer → Type 0
Comes proof came s = Ends proof s × (came_of proof s ≡ came)

-- a refusal by the table of all calls
abbrev pub refused_by : Refusal → Result (ℕ × ℕ) Answer
refused_by r = Err (answer_of r)

-- what a search in code comes to, as it is told
abbrev pub sought_of : Proved → Result (ℕ × ℕ) Answer
sought_of (Line t n) = Ok ((n + 1), t.text)
sought_of (Fails t) = Ok (0, t.text)
sought_of (NoRoom x) = refused_by x

-- a refusal's number and place as they are answered
pub refused_as : (r : Refusal) (a : Answer) → a ≡ answer (some r) → Err a ≡ refused_by r
unfolding answer
refused_as r a e = ap (λ (x : Answer). Err x) e

-- ---- leaving
-- the answer and the text are told
abbrev pub Tells : Came → Searched → List ℕ → ℕ → Type 0
Tells came r proof room = (r ≡ said came) × (proof ≡ text_left came room)

-- zeros behind a text
text_padded : (n : ℕ) (xs : List ℕ) → n ≤ length xs → zeroed n xs ≡ padded (length xs) (take n xs)
unfolding filled padded
text_padded n xs h = rw (length-take-le n xs h)

-- a text is told
pub told_text : (n text : ℕ) (proof proof' : List ℕ) → text ≤ length proof → proof' ≡ zeroed text proof → Tells (told n (take text proof)) (record { code = 0; place = 0; line = n; text = text }) proof' (length proof)
unfolding said text_left
told_text n text proof proof' h e = (ap (λ (k : ℕ). record { code = 0; place = 0; line = n; text = k }) (sym (length-take-le text proof h)), e ∙ text_padded text proof h)

-- a refusal is told
pub told-refused : (code place room : ℕ) (proof' : List ℕ) → proof' ≡ replicate room 0 → Tells (refused code place) (record { code = code; place = place; line = 0; text = 0 }) proof' room
unfolding said text_left
told-refused code place room proof' e = (refl, e)

-- so is what the call came to
pub tell_as : (proof : List ℕ) (s t : Result (ℕ × ℕ) Answer) (r : Searched) (proof' : List ℕ) (room : ℕ) → s ≡ t → Tells (came_of proof t) r proof' room → Tells (came_of proof s) r proof' room
tell_as proof s t r proof' room e T = rw e T

-- with zeros for work and patterns it is what is left
pub left-told : (came : Came) (r : Searched) (work' patterns' proof' : List ℕ) (a b c : ℕ) → Tells came r proof' c → work' ≡ replicate a 0 → patterns' ≡ replicate b 0
    → ◌≡◌ {A = Left} (record { answer = r; work = work'; patterns = patterns'; proof = proof' }) (leaves came a b c)
unfolding leaves
left-told came r work' patterns' proof' a b c T y z = λ x. record { answer = T.0 x; work = y x; patterns = z x; proof = T.1 x }

-- and it is left where the lengths are as they were
pub left_as : (came : Came) (work patterns proof : List ℕ) (s : Result (ℕ × ℕ) Answer) (a b c : ℕ) → Comes proof came s → length work ≡ a → length patterns ≡ b → length proof ≡ c
    → leaves (came_of proof s) (length work) (length patterns) (length proof) ≡ leaves came a b c
left_as came work patterns proof s a b c C l m n = rw (l, m, n) (ap (λ (x : Came). leaves x a b c) C.1)

-- ---- opening
-- the pack is refused
pub opened-refused : (l : Lent) (pack proof : List ℕ) (f : Lent → Pack → Came) (r : Refusal) → opening_refusal l pack ≡ some r → Comes proof (opened l pack f) (refused_by r)
unfolding opened
opened-refused l pack proof f r e = (tt, sym (rw (e, opened)))

-- the pack is read
pub opened_read : (l : Lent) (pack proof : List ℕ) (f : Lent → Pack → Came) (P : Pack) (s : Result (ℕ × ℕ) Answer) → lengths l ≡ none → parse pack ≡ fine P → Comes proof (f l P) s → Comes proof (opened l pack f) s
unfolding opened
opened_read l pack proof f P s n p C = (C.0, C.1 ∙ rw (pack_opened l pack (sym n) P p, opened, p))

-- the same by another name
pub comes_as : (proof : List ℕ) (came : Came) (s t : Result (ℕ × ℕ) Answer) → s ≡ t → Comes proof came t → Comes proof came s
comes_as proof came s t e C = rw e C
