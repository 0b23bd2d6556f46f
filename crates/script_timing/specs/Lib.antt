-- What a contract sees of what a loop of calls goes on with. Only contracts need this.
pub mod Held
