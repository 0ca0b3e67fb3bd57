use Rattle.std.proofs.Common.{subst, sym}
use Rattle.search_book.specs.declared.event.Event.{Event}
use Rattle.search_book.specs.declared.event.Event.TheVariants.{Claim, Settle}
use Rattle.search_book.specs.State.{State}
use Rattle.search_book.specs.Machine.{After}
use Rattle.search_book.specs.Sound.{IsSound}
use Rattle.search_book.proofs.ClaimSound.{claimed_sound}
use Rattle.search_book.proofs.SettleSound.{settles_sound}
use Rattle.book_laws.proofs.machine.each_event_keeps_a_book_sound.Goals as goal

keeps : (s t : State) (event : Event) → IsSound s → After s event t → IsSound t
keeps s t (Claim worker) sound (id, is) = subst (λ (u : State). IsSound u) (sym is.after) (claimed_sound s worker id is.entry sound is.not_over is.next)
keeps s t (Settle worker id) sound is = settles_sound s t worker id sound is

pub returns : goal.returns
returns c = keeps
