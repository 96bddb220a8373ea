-- What a prompt waits with, as contracts see it.
use Rattle.clos_prompt.specs.Waiting.{Waiting}
use Rattle.clos_prompt.specs.declared.waiting.Prompt.{Prompt}

abbrev pub waiting_of : Prompt → Waiting
waiting_of p = record { pending = p.pending.items; place = p.place; told = p.told; unread = p.unread }
