-- What the machine over the session does at an entry.
use Rattle.std.proofs.Common.{◌≡◌, ℕ, true, false, List, Option, Some, refl, sym, ◌∙◌, ap, subst, length, arith}
use Rattle.std.proofs.lemmas.Bool.{false≢true}
use Rattle.dg_ask.specs.ReplyNames.{ReplyNamesAreThere}
use Rattle.dg_disk.specs.Calls.{LeftByCrash}
use Rattle.dg_disk.specs.declared.disk.Disk as disk
use Rattle.dg_machine.specs.CommandGrammar.{command_of}
use Rattle.dg_machine.specs.declared.command.Command.{Command}
use Rattle.dg_machine.specs.declared.reply.Refusal.{Refusal}
use Rattle.dg_machine.specs.declared.reply.Refusal.TheVariants as refusal
use Rattle.dg_machine.specs.declared.reply.Reply.{Reply}
use Rattle.dg_machine.specs.declared.reply.Reply.TheVariants as replied
use Rattle.dg_machine.specs.MachineState.{MachineState}
use Rattle.dg_machine.specs.Run.{Leaves_grammar, Step, Too_long, is_store_read}
use Rattle.dg_machine.specs.Script.{Asked, Entry, Long_line, No_command}
use Rattle.dg_session.proofs.ReplyNames.{names_stay}
use Rattle.dg_session.specs.Parts.{Parts}
use Rattle.dg_session.specs.Session.{WhereBothTold}
use Rattle.dg_text.specs.Lines.{ScriptLine}
use Rattle.dg_turns.specs.declared.machine.Machine as machine
use Rattle.dg_turns.specs.Entries.{RefusesLine}
use Rattle.dg_turns.specs.Runs.{Answers, Turned}
use Rattle.dg_run.specs.Calls.{AnswersEntry, BreaksEntry, StaysSo}
use Rattle.dg_run.specs.Turns.{LeavesTurn, ReadsTurn, Replies}
use Rattle.dg_run.proofs.CrashRuns.{OnlyNow, unread_leaves}

-- Over the disk, the machine does at a command what the session does, of which it has these parts.
pub record IsSession {M D : Type 0} (g : machine.Ghosts M D) (d : disk.Ghosts D) (parts : M → Parts) : Type 0 where
  pub texts : (m : M) → g.texts m ≡ (parts m).names
  pub answers : (c : Command) (got : List ScriptLine) (m : M) (at : D) (then_m : M) (then_at : D) (reply : Reply) → g.answers c got m at then_m then_at reply
      → AnswersEntry d (Asked c got) (parts m) at (parts then_m) then_at reply
  pub breaks : (c : Command) (got : List ScriptLine) (m : M) (at : D) (then_m : M) (then_at : D) → g.breaks c got m at then_m then_at → BreaksEntry d (Asked c got) (parts m) at then_at
  pub stays : (m : M) (at : D) (then_m : M) (then_at : D) → g.stays m at then_m then_at → StaysSo d (parts m) at (parts then_m) then_at
  pub only_now : OnlyNow d

some_injective : (x y : List ℕ) → Some x ≡ Some y → x ≡ y
some_injective x y same = cc

-- what holds of each image holds of one that stays
same_told : (image : Option (List ℕ)) (P : List ℕ → List ℕ → Type 0) → ((x : List ℕ) → P x x) → WhereBothTold image image P
same_told image P each x y is then_is =
    let both : Some x ≡ Some y = sym is ∙ then_is in
    subst (λ (z : List ℕ). P x z) (some_injective x y both) (each x)

-- a refusal of a line says of no read that it failed
tells_no_read : (reply : Reply) (r : Refusal) (P : Type 0) → reply ≡ replied.Refused r → is_store_read (replied.Refused r) ≡ false → is_store_read reply ≡ true → P
tells_no_read reply r P is none e = absurd (false≢true (sym none ∙ ap is_store_read (sym is) ∙ e))

module _ {D : Type 0} (d : disk.Ghosts D) (only : OnlyNow d) where
  -- the machine refuses the entry so, in every state, and the session does nothing
  refuses_here : (e : Entry) (r : Refusal) (session : Parts) (at : D) (reply : Reply) → reply ≡ replied.Refused r → ((m : MachineState) → Step m e (replied.Refused r) m) → is_store_read (replied.Refused r) ≡ false
      → LeftByCrash d at at (LeavesTurn e session reply) → ReadsTurn e session (d.image at) reply (d.taken at) (d.taken at) → AnswersEntry d e session at session at reply
  refuses_here e r session at reply is step none crash reads = record {
    moves = same_told (d.image at) (λ x y. Replies e session x session y reply) (λ x m stands. (m, subst (λ (a : Reply). Step m e a m) (sym is) (step m), stands));
    crash = crash;
    reads = reads;
    no_index = λ nil. (nil, refl);
    store_read = λ e. tells_no_read reply r _ is none e;
    named = subst (ReplyNamesAreThere (length session.names)) (sym is) tt;
    keeps_names = names_stay session.names session.names refl;
    settled = λ on. on;
    exact = λ tidy. tidy;
    used = record { told = refl; counted = omega arith; writes_counted = omega arith; cache_counted = omega arith };
  }

  -- a line that asks for nothing
  refuses_line : (e : Entry) (r : Refusal) (session : Parts) (at : D) (reply : Reply) → RefusesLine command_of e r → reply ≡ replied.Refused r → AnswersEntry d e session at session at reply
  refuses_line (Asked c got) r session at reply refuses is = absurd refuses
  refuses_line (No_command line) r session at reply refuses is =
      refuses_here (No_command line) (refusal.Syntax refuses.0) session at reply (is ∙ ap (λ (x : Refusal). replied.Refused x) refuses.2) (λ m. Leaves_grammar line refuses.0 refuses.1) refl
      (unread_leaves d only at) refl
  refuses_line Long_line r session at reply refuses is =
      refuses_here Long_line refusal.LineLong session at reply (is ∙ ap (λ (x : Refusal). replied.Refused x) refuses) (λ m. Too_long) refl (unread_leaves d only at) refl

module _ {M D : Type 0} {g : machine.Ghosts M D} {d : disk.Ghosts D} {parts : M → Parts} where
  unmoved : IsSession g d parts → (m : M) (at : D) (e : Entry) (t : Turned M D) (r : Refusal) → RefusesLine command_of e r → t.reply ≡ replied.Refused r → t.machine ≡ m → t.world ≡ at
      → AnswersEntry d e (parts m) at (parts t.machine) t.world t.reply
  unmoved is m at e t r refuses same same_m same_at =
      subst (λ (x : M). AnswersEntry d e (parts m) at (parts x) t.world t.reply) (sym same_m)
      (subst (λ (x : D). AnswersEntry d e (parts m) at (parts m) x t.reply) (sym same_at) (refuses_line d is.only_now e r (parts m) at t.reply refuses same))

  -- an entry that is answered by the machine is answered by the session
  pub answered_entry : IsSession g d parts → (m : M) (at : D) (e : Entry) (t : Turned M D) → Answers g command_of m at e t → AnswersEntry d e (parts m) at (parts t.machine) t.world t.reply
  answered_entry is m at (Asked c got) t a = is.answers c got m at t.machine t.world t.reply a
  answered_entry is m at (No_command line) t a = unmoved is m at (No_command line) t a.0 a.1 a.2 a.3 a.4
  answered_entry is m at Long_line t a = unmoved is m at Long_line t a.0 a.1 a.2 a.3 a.4
