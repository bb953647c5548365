-- Turns of a desk whose replies are heard.
use Rattle.std.proofs.Common.{◌≡◌, ℕ, Bool, true, false, List, [], ◌∷◌, refl, ap, sym, ◌∙◌, subst}
use Rattle.tailcfg.specs.declared.response.Response.{Response}
use Rattle.tailnet_desk.specs.Chains.{Chain, Turned}
use Rattle.tailnet_desk.specs.Seated.{Point}
use Rattle.tailnet_desk.specs.Turns.{IsTurn}
use Rattle.tailnet_desk.specs.declared.entry.Event.{Event}
use Rattle.tailnet_desk.specs.declared.reply.Loss.TheVariants.{NoMemory}
use Rattle.tailnet_desk.specs.declared.reply.Reply.{Reply}
use Rattle.tailnet_desk.specs.declared.reply.Reply.TheVariants.{Lost}
use Rattle.tailnet_desk.proofs.Histories.{Chain-map}
use Rattle.load_run.specs.Hearing.{HadMemory, IsHeard, hear, hear_turns}
use Rattle.load_run.specs.Watching.{IsWatchedTurn, Watched}
use Rattle.load_run.specs.declared.heard.Heard.{Heard}

-- the turns are those of the desk
pub desk_turns : (p : Watched) (ts : List Turned) (q : Watched) → Chain IsWatchedTurn p ts q → Chain IsTurn p.point ts q.point
desk_turns p ts q c = Chain-map IsWatchedTurn IsTurn (λ (w : Watched). w.point) (λ s e reply t h. h.turn) p ts q c

-- memory that was refused stays so
pub fed_before : (p : Watched) (ts : List Turned) (q : Watched) → Chain IsWatchedTurn p ts q → q.heard.starved ≡ false → p.heard.starved ≡ false
fed_before p [] q c fed = ap (λ (w : Watched). w.heard.starved) c ∙ fed
fed_before p (t ∷ ts) q c fed = c.1.heard.still (fed_before c.0 ts q c.2 fed)

-- what was heard of them is what their replies say
pub turns_heard : (p : Watched) (ts : List Turned) (q : Watched) → Chain IsWatchedTurn p ts q → q.heard.starved ≡ false → q.heard ≡ hear_turns p.heard ts
turns_heard p [] q c fed = ap (λ (w : Watched). w.heard) (sym c)
turns_heard p (t ∷ ts) q c fed =
    let later = fed_before c.0 ts q c.2 fed in
    turns_heard c.0 ts q c.2 fed ∙ ap (λ h. hear_turns h ts) (c.1.heard.heard later)

-- a reply of lack of memory is heard as that
pub starving : (h : Heard) (reply : Reply) → reply ≡ Lost NoMemory → (hear h reply).starved ≡ true
starving h reply e = ap (λ r. (hear h r).starved) e

-- and none of them is lack of memory
pub turns_fed : (p : Watched) (ts : List Turned) (q : Watched) → Chain IsWatchedTurn p ts q → q.heard.starved ≡ false → HadMemory ts
turns_fed p [] q c fed = tt
turns_fed p (t ∷ ts) q c fed =
    let later = fed_before c.0 ts q c.2 fed in
    (λ lost. let bad : true ≡ false = sym (starving p.heard t.reply lost) ∙ ap (λ (h : Heard). h.starved) (sym (c.1.heard.heard later)) ∙ later in cc, turns_fed c.0 ts q c.2 fed)
