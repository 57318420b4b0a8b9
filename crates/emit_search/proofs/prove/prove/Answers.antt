-- `prove` meets its contract.
use Rattle.emit_state.specs.Holding.{lends}
use Rattle.emit_state.specs.Writes.{maps_laid}
use Rattle.emit_search.specs.Asking.{failing, asked-room}
use Rattle.emit_search.specs.Answering.{deep_enough, remember_asked, note-asked, answers_known, answers_given-up, answers_refused, answers_proved, answers_failed}
use borrow.Author.Rules.{rules}
use Rattle.emit_search.proofs.prove.prove.Goals as goal

-- src/prove.rt:37:11
pub known-requires : goal.known-requires
known-requires c = let A = c.requires.0 in (maps_laid _ _ A.ready.holding.laid, asked-room _ _ _ _ _ A.ready _ A.has)

-- src/prove.rt:38:24
pub enum_known-n : goal.enum_known-n
enum_known-n c = search rules

-- src/prove.rt:39:13
pub returns-in-Some : goal.returns-in-Some
returns-in-Some c = let K = c.in-Some.ensures in answers_known (lends _ _ _ _) _ _ _ _ _ K

pub enum_told-1 : goal.enum_told-1
enum_told-1 c = search rules

-- src/prove.rt:43:8
pub gives_up-requires : goal.gives_up-requires
gives_up-requires c = let A = c.requires.0 in failing _ _ _ _ _ A.ready.holding _ (asked-room _ _ _ _ _ A.ready _ A.has)

-- src/prove.rt:44:9
pub returns-then-gives_up : goal.returns-then-gives_up
returns-then-gives_up c =
    let K = c.in-None.ensures in
    let U = rw c.if-gives_up.true at c.gives_up.ensures in
    answers_given-up (lends _ _ _ _) _ _ _ _ K c.requires.1 U

-- src/prove.rt:46:11
pub chain-requires : goal.chain-requires
chain-requires c =
    let U = rw c.if-gives_up.false at c.gives_up.ensures in
    (c.requires.0, deep_enough _ U)

-- src/prove.rt:47:22
pub enum_known-t : goal.enum_known-t
enum_known-t c = search rules

-- src/prove.rt:47:44
pub remember-requires : goal.remember-requires
remember-requires c =
    remember_asked _ (lends _ _ _ _) _ _ _ _ c.requires.0 _ _ (rw c.in-Line.is at c.chain.ensures.answer) (rw c.in-Line.is at c.chain.ensures.line)

-- src/prove.rt:48:23
pub enum_known-t-in-Fails-1 : goal.enum_known-t-in-Fails-1
enum_known-t-in-Fails-1 c = search rules

-- src/prove.rt:49:13
pub note_failed-requires : goal.note_failed-requires
note_failed-requires c =
    note-asked _ (lends _ _ _ _) _ _ _ _ c.requires.0 _ (rw c.in-Fails.is at c.chain.ensures.answer)

-- src/prove.rt:52:25
pub enum_known-x : goal.enum_known-x
enum_known-x c = search rules

-- src/prove.rt:24:1
pub returns-in-Line : goal.returns-in-Line
returns-in-Line c =
    let K = c.in-None.ensures in
    let U = rw c.if-gives_up.false at c.gives_up.ensures in
    answers_proved (lends _ _ _ _) _ _ _ _ K U (lends _ _ _ _) _ _ (rw c.in-Line.is at c.chain.ensures.answer) _ _ c.remember.ensures

-- src/prove.rt:24:1
pub returns-in-Fails : goal.returns-in-Fails
returns-in-Fails c =
    let K = c.in-None.ensures in
    let U = rw c.if-gives_up.false at c.gives_up.ensures in
    answers_failed (lends _ _ _ _) _ _ _ _ K U (lends _ _ _ _) _ (rw c.in-Fails.is at c.chain.ensures.answer) _ c.note_failed.ensures

-- src/prove.rt:24:1
pub returns-in-Refused : goal.returns-in-Refused
returns-in-Refused c =
    let K = c.in-None.ensures in
    let U = rw c.if-gives_up.false at c.gives_up.ensures in
    answers_refused (lends _ _ _ _) _ _ _ _ K U (lends _ _ _ _) _ (rw c.in-Refused.is at c.chain.ensures.answer)
