mod LaterEntries
mod OneAfter
mod OncePerRun
mod Accounts
mod WorkedRows
mod WorkedPaths
