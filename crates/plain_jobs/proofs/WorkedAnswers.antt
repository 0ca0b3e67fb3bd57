-- Worked lines of answers, by computing.
use Rattle.std.proofs.Common.{◌≡◌, refl, [], ◌∷◌, codes, false, pos, negsuc}
use Rattle.quandle_core.specs.Tables.{tetrahedral}
use Rattle.colour_rows.specs.Colouring.{is_colouring}
use Rattle.cert_check.specs.declared.ruling.Ruling.TheVariants.{Accepted, Rejected}
use Rattle.cert_check.specs.declared.ruling.Why.TheVariants as why
use Rattle.braid_core.specs.Braid.{Word}
use Rattle.braid_moves.specs.declared.step.BraidMove.TheVariants.{Far, Triple, Cancel, Insert, Turn, Shrink}
use Rattle.braid_moves.specs.Ruling.{ruling}
use Rattle.knot_ports.specs.declared.status.Status.TheVariants as status
use Rattle.reply_text.specs.Lines.{ruling_line, limit_bytes}
use Rattle.reply_text.specs.Reply.{plain_reply, done, rejected}
use Rattle.braid_moves.specs.declared.step.BraidMoveFault.TheVariants as fault
use Rattle.plain_jobs.specs.Jobs.Braidcheck.{ruled_reply, braid_step_tokens}

accepted : ruling_line Accepted ≡ codes "accepted\n"
accepted = refl

another_end : ruling_line (Rejected why.OtherEnd) ≡ codes "rejected otherend\n"
another_end = refl

too_many_bytes : limit_bytes ≡ codes "limit bytes\n"
too_many_bytes = refl

-- colours that are no colouring of the right trefoil
no_colouring : is_colouring tetrahedral (record { x = 4 ∷ 3 ∷ 2 ∷ 1 ∷ 0 ∷ []; o = 2 ∷ 1 ∷ 0 ∷ 4 ∷ 3 ∷ [] }) (0 ∷ 1 ∷ 3 ∷ 0 ∷ 2 ∷ []) ≡ false
no_colouring = refl

-- steps from a word of the trefoil with three strands to one with two, too few of them, and one that is not legal
abbrev three_strands : Word
three_strands = record { strands = 3; letters = pos 2 ∷ pos 1 ∷ pos 2 ∷ pos 1 ∷ [] }

abbrev two_strands : Word
two_strands = record { strands = 2; letters = pos 1 ∷ pos 1 ∷ pos 1 ∷ [] }

steps_accepted : ruled_reply (ruling three_strands two_strands (Triple 0 ∷ Turn 2 ∷ Shrink ∷ [])) ≡ done (codes "accepted\n")
steps_accepted = refl

too_few_steps : ruled_reply (ruling three_strands two_strands (Triple 0 ∷ Turn 2 ∷ [])) ≡ plain_reply status.Rejected (codes "rejected otherend\n")
too_few_steps = refl

no_shape : ruled_reply (ruling three_strands two_strands (Shrink ∷ [])) ≡ rejected (braid_step_tokens 0 fault.Shape)
no_shape = refl

-- the figure eight knot and its mirror image
abbrev figure_eight : Word
figure_eight = record { strands = 3; letters = pos 1 ∷ negsuc 1 ∷ pos 1 ∷ negsuc 1 ∷ [] }

abbrev mirrored : Word
mirrored = record { strands = 3; letters = negsuc 0 ∷ pos 2 ∷ negsuc 0 ∷ pos 2 ∷ [] }

its_mirror_image : ruled_reply (ruling figure_eight mirrored
    (Insert 0 (negsuc 0) ∷ Insert 1 (negsuc 1) ∷ Turn 2 ∷ Triple 5 ∷ Cancel 4 ∷ Insert 0 (negsuc 0) ∷ Triple 1 ∷ Triple 2 ∷ Cancel 4
    ∷ Insert 2 (negsuc 0) ∷ Triple 3 ∷ Cancel 5 ∷ Cancel 4 ∷ [])) ≡ done (codes "accepted\n")
its_mirror_image = refl

-- four strands, of which one goes
last_strand_goes : ruled_reply (ruling (record { strands = 4; letters = pos 1 ∷ negsuc 1 ∷ pos 3 ∷ pos 1 ∷ negsuc 1 ∷ [] }) figure_eight
    (Far 2 ∷ Turn 4 ∷ Shrink ∷ Turn 1 ∷ [])) ≡ done (codes "accepted\n")
last_strand_goes = refl
