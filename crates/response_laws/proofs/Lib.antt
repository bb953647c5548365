mod DnsBack
mod FilterBack
mod Finding
mod NodeBack
mod Reading
mod ResponseBack
mod Steps
mod ValueBack
